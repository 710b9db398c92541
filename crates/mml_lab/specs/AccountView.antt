-- The program's accounts, as contracts describe them: names and keys are lists of bytes.
use Rattle.std.specs.{Prelude.String, Prelude.string_bytes, declared.alloc.Global.Global}
use Rattle.mml_lab.specs.{declared.accounts.Account.Account as KeptAccount, Rosters.Account}

-- the name and the key of an account, as bytes
abbrev pub account_view : KeptAccount → Account
account_view p = record { name = string_bytes p.name; key = string_bytes p.key }

-- an entry of the map from names to keys, as bytes
abbrev pub entry_account : String Global × String Global → Account
entry_account e = record { name = string_bytes e.0; key = string_bytes e.1 }
