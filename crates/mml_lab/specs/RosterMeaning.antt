-- The definitions of the roster, as logical statements.
use Rattle.std.specs.{Prelude.◌≡◌, Prelude.ℕ, Prelude.◌<◌, Prelude.◌≤◌, Prelude.◌⊎◌, Prelude.List, Prelude.length, Prelude.slice_index, Prelude.All, Int.IsInRange}
use Rattle.mml_lab.specs.{declared.TheConstants.MAX_NAME, declared.TheConstants.MAX_KEY, declared.who.Who.Who, Rosters.RosterValue, Rosters.IsPrincipal, Rosters.name_of, Rosters.key_of}

-- a to z
abbrev pub IsLetter : ℕ → Type 0
IsLetter b = IsInRange 97 122 b

-- a letter, 0 to 9 or '-'
abbrev pub IsNameByte : ℕ → Type 0
IsNameByte b = IsLetter b ⊎ (IsInRange 48 57 b ⊎ (b ≡ 45))

-- 1 to 32 bytes, each a letter, 0 to 9 or '-', the first a letter
pub record IsName (name : List ℕ) : Type 0 where
  pub some : 0 < length name
  pub short : length name ≤ MAX_NAME
  pub first : IsLetter (slice_index name 0)
  pub bytes : All IsNameByte name

-- 1 to 64 bytes, each a printable ASCII character other than the space
pub record IsKey (key : List ℕ) : Type 0 where
  pub some : 0 < length key
  pub short : length key ≤ MAX_KEY
  pub bytes : All (IsInRange 33 126) key

-- w is a participant with that name and key
pub record IsKnownAs (r : RosterValue) (w : Who) (name key : List ℕ) : Type 0 where
  pub member : IsPrincipal r w
  pub named : name_of r w ≡ name
  pub keyed : key_of r w ≡ key
