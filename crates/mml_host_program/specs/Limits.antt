-- The limits that a class has, for programs to read.
use Rattle.std.specs.Prelude.{ℕ, List, ◌++◌, codes, decimal}
use Rattle.mml_lab.specs.declared.TheConstants.{MAX_EVENTS, MAX_KEY, MAX_NAME, MAX_OWNERS, MAX_SESSIONS, MAX_STUDENTS}
use Rattle.mml_codec.specs.declared.TheConstants.{MAX_REQUEST}

-- a line: what is limited, the greatest number that is allowed, and its unit
abbrev pub limit_line : List ℕ → ℕ → List ℕ → List ℕ
limit_line name most unit = name ++ (codes " " ++ (decimal most ++ (codes " " ++ (unit ++ codes "\n"))))

-- how large a lab's network may be, how many students there may be, and how many of them may own a node
abbrev pub network_limits : List ℕ
network_limits = limit_line (codes "nodes") 256 (codes "count") ++ (limit_line (codes "identifier") 65535 (codes "number")
    ++ (limit_line (codes "students") MAX_STUDENTS (codes "count") ++ limit_line (codes "owners") MAX_OWNERS (codes "count")))

-- how many sessions and events a class may have, and how long its names and keys may be
abbrev pub class_limits : List ℕ
class_limits = limit_line (codes "sessions") MAX_SESSIONS (codes "count") ++ (limit_line (codes "events") MAX_EVENTS (codes "count")
    ++ (limit_line (codes "name") MAX_NAME (codes "characters") ++ limit_line (codes "key") MAX_KEY (codes "characters")))

-- how long a request's line, a lab's file and a journal's file may be
abbrev pub text_limits : List ℕ
text_limits = limit_line (codes "line") MAX_REQUEST (codes "bytes") ++ (limit_line (codes "lab") 1048576 (codes "bytes")
    ++ limit_line (codes "journal") 16777216 (codes "bytes"))

-- how many bytes one entry of a record may have, how many a host writes to a seat's file, and how many are read from
-- one
abbrev pub record_limits : List ℕ
record_limits = limit_line (codes "entry") 8388608 (codes "bytes") ++ (limit_line (codes "seat-written") 1072693248 (codes "bytes")
    ++ limit_line (codes "seat-read") 1073741824 (codes "bytes"))

-- the deadlines of a connection: of its greeting at the students' port and at the desk, of its next line, and of a
-- write to it
abbrev pub deadlines : List ℕ
deadlines = limit_line (codes "greeting") 10 (codes "seconds") ++ (limit_line (codes "desk-greeting") 5 (codes "seconds")
    ++ (limit_line (codes "next-line") 600 (codes "seconds") ++ limit_line (codes "write") 10 (codes "seconds")))

-- the lines of all limits
abbrev pub limits_text : List ℕ
limits_text = network_limits ++ (class_limits ++ (text_limits ++ (record_limits ++ deadlines)))
