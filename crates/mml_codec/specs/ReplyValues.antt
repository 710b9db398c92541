-- The JSON value of each reply. A clause is a condition under which a request is granted. The roster has the
-- participants of the lab, and the owners of each node.
use Rattle.std.specs.{Prelude.ℕ, Prelude.List, Prelude.Bool, Prelude.true, Prelude.◌&&◌, Ordering.nat_cmp, Ordering.is_lt, Cmp.Lexicographic.slice_cmp}
use Rattle.serde_json.specs.Data.{Data, null, boolean, number, string, array, object, Items, no_items, item, Members, no_members, member}
use Rattle.mml_lab.specs.Rosters.{RosterValue}
use Rattle.mml_codec.specs.{declared.reply.Reply.Reply, Objects.object_with, Facts.keys_of, Facts.HaveFittingCounts, Replies.fields_of}

-- the JSON object of a reply, in a lab with these identifiers and this roster
abbrev pub reply_value : List ℕ → RosterValue → Reply → Data
reply_value ids roster r = object_with (keys_of ids (fields_of roster r))

-- each count in a reply fits 64 bits; counts are all its numbers except identifiers and the number of a clause
abbrev pub AreWritableCounts : RosterValue → Reply → Type 0
AreWritableCounts roster r = HaveFittingCounts (fields_of roster r)

-- whether the keys rise in byte order in each object of the value
abbrev mutual
  pub has_rising_keys : Data → Bool
  has_rising_keys null = true
  has_rising_keys (boolean b) = true
  has_rising_keys (number n) = true
  has_rising_keys (string s) = true
  has_rising_keys (array ds) = items_have_rising_keys ds
  has_rising_keys (object ms) = members_rise ms

  -- whether the keys rise in each object of an array's values
  pub items_have_rising_keys : Items → Bool
  items_have_rising_keys no_items = true
  items_have_rising_keys (item d ds) = has_rising_keys d && items_have_rising_keys ds

  -- whether the keys of these members rise, and also those in each object of their values
  pub members_rise : Members → Bool
  members_rise no_members = true
  members_rise (member k d ms) = comes_first k ms && (has_rising_keys d && members_rise ms)

  -- whether the key is less than the first key of the members, or there are no members
  pub comes_first : List ℕ → Members → Bool
  comes_first k no_members = true
  comes_first k (member l d ms) = is_lt (slice_cmp nat_cmp k l)
