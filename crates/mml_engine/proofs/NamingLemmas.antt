-- The events that replies of any engine name.
use Rattle.std.proofs.Common.{◌≡◌, ◌++◌, ◌∷◌, ℕ, List, [], Option, Some, None, Ok, refl, sym, ap, inl, inr, append_assoc, arith}
use mathlib.Core.List.{IsPrefix}
use Rattle.mml_lab.specs.{declared.who.Who.Who, Labs.LabValue}
use Rattle.mml_board.specs.{declared.event.Event.Event, Events.after, Lists.world_in}
use Rattle.mml_policy.specs.{declared.command.Command.Command, declared.ruling.Ruling.Ruling, declared.ruling.Ruling.TheVariants.Granted}
use Rattle.mml_codec.specs.{declared.reply.Reply.Reply, Lines.request_in, Replies.place_in}
use Rattle.mml_codec.proofs.RulingsLemmas.{place_of_done}
use Rattle.mml_engine.specs.{Named.NamesLast, Told.Told, Told.Plainly, Told.entered, Told.ruling_at, Told.told_by}
use Rattle.mml_codec.specs.declared.request.Request.TheVariants as requests

-- no reply names a place and no place
pub none_named : {P : Type 0} (r : Reply) (p : ℕ) → place_in r ≡ None → place_in r ≡ Some p → P
none_named r p none some = absurd (cc)

-- how a session learns of events, if the lab stands for the engine
abbrev pub Lists : LabValue → List Event → Who → Command → Reply → LabValue → List Event → Type 0
Lists = told_by (λ (e : LabValue). e) (λ e (v : List Event). v)

-- ---- the events that a session has seen only grow in number

entered_on : (old l : List Event) (x : Option Event) → IsPrefix old l → IsPrefix old (entered l x)
entered_on old l None h = h
entered_on old l (Some e) h = (h.0 ++ e ∷ [], rw (← h.1) (sym (append_assoc old h.0 (e ∷ []))))

-- after an answered command, the events that the session has seen begin with those that it had seen before
pub told_on : (lab : LabValue) (old new : List Event) (who : Who) (c : Command) (r : Reply) → Told lab old who c r new → IsPrefix old new
told_on lab old new who c r t = elim t.says [ inl plain ↦ rw plain.1 (entered_on old t.list _ t.later) | inr refused ↦ rw refused.3 t.later ]

-- ---- the event that a reply names

module _ (lab : LabValue) (known : Option Who) (line : List ℕ) (new : List Event) (r : Reply) (p : ℕ) (named : place_in r ≡ Some p)
    (old : List Event) (x : Who) (c : Command) (t : Told lab old x c r new) (by : known ≡ Some x) (ask : request_in line ≡ Ok (requests.Do c)) where
  granted_names : (ruled : Ruling) → ruling_at lab (world_in lab t.list) x c ≡ ruled → Plainly lab t.list ruled r new → NamesLast lab known line r p new
  granted_names (Granted e d) is h =
      let k : p ≡ (after (world_in lab t.list) e).place = grind (arith, place_of_done, h.0, named) in
      let q = rw (← k) at h.0 in
      record { who = x; command = c; event = e; done = d; before = t.list; by = by; asked = ask; legal = t.legal; last = h.1; ruled = is; place = k; reply = q }
  granted_names _ is h = none_named r p (ap place_in h.0) named

  -- if an engine has answered a command, the reply's place is that of the last event that the session has seen
  pub told_names : NamesLast lab known line r p new
  told_names = elim t.says [ inl h ↦ granted_names _ refl h | inr q ↦ none_named r p (ap place_in q.1) named ]
