-- The reply to a command, made from the window's answer. If memory runs out for the line of a reply that isn't short,
-- the refusal `memory` is sent instead. The place of an event is its number in the list of events, from 1. A window is
-- what a session has seen of this list, and the places of the events that were granted to it.
use Rattle.std.proofs.lemmas.Bool.Decides.{nat_tests}
use Rattle.std.proofs.Common.{◌≡◌, ◌⊎◌, ℕ, false, List, ◌++◌, ap, inl, append-nil, ◌-◌, length, arith}
use Rattle.mml_lab.specs.{declared.who.Who.Who, Labs.LabValue}
use Rattle.mml_board.specs.{declared.event.Event.Event, declared.done.Done.Done, declared.denial.Denial.Denial, Lists.world_in}
use Rattle.mml_policy.specs.declared.{command.Command.Command, refusal.Refusal.Refusal, refusal.Refusal.TheVariants.Full, ruling.Ruling.Ruling}
use Rattle.mml_codec.specs.{declared.reply.Reply.Reply, Replies.is_short, Replies.TellsFor, Rulings.reply_of_done, Rulings.refusal_for}
use Rattle.mml_codec.specs.declared.greeting.Greeting.{Greeting, TheVariants.LeftToJudge}
use Rattle.mml_codec.proofs.RulingsLemmas.{place_of_done, short_done}
use Rattle.mml_window.specs.declared.answer.Answer.TheVariants.{Denied, Granted, Refused}
use Rattle.mml_window.specs.{Answers.Answers, Rulings.ruling_at, Windows.WindowValue}
use Rattle.mml_window.proofs.ListLemmas.{world-one_more}
use Rattle.mml_session.specs.Turns.{Standing, Told, Plainly, Refuses, Settles, Turn, places_in, halts_in, spare_in}
use Rattle.mml_session.proofs.GreetingLemmas.{IsPlain, plain_greeting}
use Rattle.mml_codec.specs.declared.reply.Refused.TheVariants as refused
use Rattle.mml_codec.specs.declared.reply.Reply.TheVariants as replies

done_counted : (n number place : ℕ) (done : Done) → (halts_in (reply_of_done number place done) ≡ 0) × (spare_in n (reply_of_done number place done) ≡ 0)
done_counted n number place done = grind (arith, nat_tests)

module _ (lab : LabValue) (old new : WindowValue) (who : Who) (c : Command) where
  -- if the window granted an event, the reply that names it is right
  pub granted_told : (place number : ℕ) (done : Done) → Answers lab old who c (Granted place number done) new
      → Told lab old who c (reply_of_done number place done) new
  granted_told place number done answers =
      let (l, later, legal, (e, takes, is, none)) = answers in
      let counted = done_counted (lab.events - length new.seen) number place done in
      let places : new.places ≡ old.places ++ places_in (reply_of_done number place done) =
      rw (place_of_done number place done) (ap (λ (w : WindowValue). w.places) is) in
      record {
        list = l;
        later = later;
        legal = legal;
        says = inl (rw takes.ruled (cc (takes.numbered, takes.placed, world-one_more lab l e), (ap (λ (w : WindowValue). w.seen) is, places)));
        counted = omega (arith, ap (λ (w : WindowValue). w.halts) is, counted.0);
        spared = omega (arith, ap (λ (w : WindowValue). w.spare) is, counted.1);
        unhalted = rw (place_of_done number place done) none;
      }

  -- if the window denied the command, this denial is the right reply
  pub denied_told : (d : Denial) → Answers lab old who c (Denied d) new → Told lab old who c (replies.Deny d) new
  denied_told d answers = grind (arith, nat_tests, append-nil)

  -- if the window refused the command, this refusal is the right reply
  pub refused_told : (why : Refusal) → Answers lab old who c (Refused why) new → Told lab old who c (replies.Refuse (refusal_for why)) new
  refused_told Full answers = grind (arith, nat_tests, append-nil)
  refused_told _ answers = grind (arith, nat_tests, append-nil)

-- ---- the refusal `memory` in place of a reply that isn't short

long_refused : (lab : LabValue) (l : List Event) (ps : List ℕ) (r : Reply) (new : WindowValue) (ruled : Ruling) → is_short r ≡ false
    → Plainly lab l ps ruled r new ⊎ Refuses l ps ruled r new → Refuses l ps ruled (replies.Refuse refused.Memory) new
long_refused lab l ps r new ruled long h = grind (arith, nat_tests, short_done, append-nil)

module _ (lab : LabValue) where
  told_memory : (old new : WindowValue) (who : Who) (c : Command) (r : Reply) → is_short r ≡ false → Told lab old who c r new
      → Told lab old who c (replies.Refuse refused.Memory) new
  told_memory old new who c r long t =
      let ruled = ruling_at lab (world_in lab t.list) who c in grind (arith, nat_tests, long_refused lab t.list old.places r new ruled long t.says)

  settled_memory : (st next : Standing) (g : Greeting) (r : Reply) → is_short r ≡ false → IsPlain g → Settles lab st g r next
      → Settles lab st g (replies.Refuse refused.Memory) next
  settled_memory st next (LeftToJudge who c) r long plain h = (h.0, told_memory st.window next.window who c r long h.1)
  settled_memory st next _ r long plain h = grind (arith, nat_tests)

  -- if a reply that isn't short is replaced by the refusal `memory`, this refusal is also a right reply to the line
  pub turn_told : (st next : Standing) (line : List ℕ) (r told : Reply) → TellsFor r told → Turn lab st line r next → Turn lab st line told next
  turn_told st next line r told h5 t = grind (arith, nat_tests, settled_memory, plain_greeting)
