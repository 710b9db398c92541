-- The result of an accept.
use Rattle.std.specs.Prelude.{List, [], ◌∷◌, Option}
use Rattle.mml_serving.specs.Arriving.{Takes}
use Rattle.mml_hosting.specs.declared.accepting.Accepted.{Accepted}
use Rattle.mml_hosting.specs.declared.accepting.Accepted.TheVariants as accepted

-- the connection that came is removed from those to come; if nobody came, or no more are served, nothing changes
abbrev pub Brings : {R W U : Type 0} → Option (List (R × W)) → Option (List (R × W)) → Accepted R W U → Type 0
Brings old new (accepted.Came ends cut_off) = Takes old new (ends ∷ [])
Brings old new accepted.Nobody = Takes old new []
Brings old new accepted.Over = Takes old new []
