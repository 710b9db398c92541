use Rattle.std.proofs.Common.{rules, ◌≡◌, ◌+◌, length-append, ◌++◌, ◌∷◌, [], List, length, ap, ◌∙◌, arith, None, subst, sym, refl, take, ◌-◌}
use mathlib.Core.List.{IsPrefix}
use Rattle.mml_board.specs.{declared.event.Event.Event}
use Rattle.mml_window.specs.{Climbing.Climbs, inside.Readers.view_by}
use Rattle.mml_window.proofs.{TallyLemmas.climbs_push, AboutLemmas.window_on, PrefixLemmas.before_last, PrefixLemmas.one_more}
use Rattle.mml_window.proofs.window.Window.keep.Goals as goal

pub invariant_of-self-in-Some : goal.invariant_of-self-in-Some
invariant_of-self-in-Some g c =
    let was = c.self.inside.places.items in
    let items = c.push_reserved.new.self.items in
    let count : length c.look_for.ensures.0.events.items ≡ c.in-Granted.place = search rules in
    let more : c.in-Granted.place ≡ length (view_by c.self.inside.reader).seen + 1 = search rules in
    let counted : c.args.grant.amount ≡ 1 = search rules in
    let longer = ap length c.push_reserved.ensures.items ∙ length-append was (c.in-Granted.place ∷ []) in
    let total : c.merge.new.self.amount ≡ length items = omega (arith, c.merge.ensures.amount, c.self.invariant.4, counted, longer) in
    let climbs : Climbs 0 items (length c.look_for.ensures.0.events.items) =
    rw (c.push_reserved.ensures.items, count) (climbs_push 0 was _ c.in-Granted.place (omega (arith, more)) c.self.invariant.0.climbs) in
    let window = window_on g.H.House.lab _ _ _ _ was items _ None _ _ c.look_for.ensures.2 refl climbs c.self.invariant.0 in
    (window, search rules, search rules, search rules, total, search rules)

pub returns-in-Some : goal.returns-in-Some
returns-in-Some g c =
    let x = c.look_for.ensures.0 in
    let saw = c.look_for.ensures.2 in
    let e = c.in-Some.event.now in
    let ends : (front : List Event) × (x.events.items ≡ front ++ e ∷ []) = search rules in
    let begins = subst (λ l. IsPrefix l x.events.items) (ap (λ w. w.seen) c.self.view_is) saw.begins in
    let next : x.events.items ≡ c.args.self.now.seen ++ e ∷ [] = one_more _ _ ends.0 e begins (search rules) ends.1 in
    let all : c.deref.result.now ≡ c.args.press.now.desk.shown.value.events.items = search rules in
    let final = before_last c.deref.result.now e c.in-Some.ensures.item.3.0 (search rules) in
    rw c.in-Granted.is
    (take (length c.deref.result.now - 1) c.deref.result.now, e, sym all ∙ final, grind (arith, next, saw.view, c.self.view_is, c.push_reserved.ensures.items))
