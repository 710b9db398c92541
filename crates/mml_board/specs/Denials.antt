-- The words of each denial.
use Rattle.std.specs.Prelude.{ℕ, List, codes}
use Rattle.mml_board.specs.declared.denial.Denial.{Denial}
use Rattle.mml_board.specs.declared.denial.Denial.TheVariants as denial

-- the number of the clause, in the order in which the clauses of a request are tried; the word that programs read; and
-- the sentence that people read
pub record DenialWords : Type 0 where
  pub clause : ℕ
  pub name : List ℕ
  pub text : List ℕ

-- the words of a denial
abbrev pub words_of : Denial → DenialWords
words_of denial.NotGreeted = record { clause = 0; name = codes "not-greeted"; text = codes "say hello first" }
words_of denial.Greeted = record { clause = 1; name = codes "greeted"; text = codes "this connection has a name already" }
words_of denial.Unknown = record { clause = 2; name = codes "unknown"; text = codes "name and key do not match" }
words_of denial.Hidden = record { clause = 1; name = codes "hidden"; text = codes "this node is not shown to you" }
words_of denial.NotOwner = record { clause = 1; name = codes "not-owner"; text = codes "you do not own this node" }
words_of (denial.Stale at) = record { clause = 2; name = codes "stale"; text = codes "this is not the current configuration" }
words_of denial.Chosen = record { clause = 3; name = codes "chosen"; text = codes "this node is already chosen" }
words_of denial.Guard = record { clause = 4; name = codes "guard"; text = codes "the guard of this rule does not hold" }
words_of denial.NotTeacher = record { clause = 1; name = codes "not-teacher"; text = codes "only the teacher may do this" }
words_of denial.Empty = record { clause = 2; name = codes "empty"; text = codes "no node is chosen" }
words_of denial.NoNode = record { clause = 2; name = codes "no-node"; text = codes "there is no such node" }
words_of denial.BadRegister = record { clause = 3; name = codes "bad-register"; text = codes "p must be null or a neighbour" }
words_of denial.Loop = record { clause = 3; name = codes "loop"; text = codes "a node is not linked to itself" }
words_of denial.Linked = record { clause = 4; name = codes "linked"; text = codes "these nodes are linked already" }
words_of denial.NotLinked = record { clause = 3; name = codes "not-linked"; text = codes "these nodes are not linked" }
words_of denial.NotChosen = record { clause = 3; name = codes "not-chosen"; text = codes "this node is not chosen" }

-- the number of the clause that doesn't hold
abbrev pub clause_of : Denial → ℕ
clause_of d = (words_of d).clause

-- the word that a program reads
abbrev pub denial_name : Denial → List ℕ
denial_name d = (words_of d).name

-- the sentence that a person reads
abbrev pub text_of : Denial → List ℕ
text_of d = (words_of d).text
