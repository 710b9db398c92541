use Rattle.std.proofs.{Common.rules, Common.arith, Common.◌≡◌, Common.◌++◌, lemmas.List.Sums.AllPass-from_list_all}
use Rattle.mml_hosting.specs.Ports.{windows_of}
use Rattle.mml_hosting.proofs.hosted.end_house.Goals as goal

pub returns-in-Ok-ended-clause-dismissed : goal.returns-in-Ok-ended-clause-dismissed
returns-in-Ok-ended-clause-dismissed g c = AllPass-from_list_all (λ s. s.is_dismissed) c.args.desk_seats.items (search rules)

pub returns-then-not-is_dismissed-clause-without : goal.returns-then-not-is_dismissed-clause-without
returns-then-not-is_dismissed-clause-without g c =
    let all : windows_of c.args.desk_seats.items ++ windows_of c.args.seats.items ≡ c.append.new.self.items = search rules in
    rw all (search rules, c.into_book.result, record { book = c.into_book.ensures; seen = c.finish_from-ended.ensures.seen })

pub returns-in-Err-clause-without : goal.returns-in-Err-clause-without
returns-in-Err-clause-without g c =
    let all : windows_of c.args.desk_seats.items ++ windows_of c.args.seats.items ≡ c.append.new.self.items = search rules in
    rw all (
      AllPass-from_list_all (λ s. s.is_dismissed) c.args.desk_seats.items (search rules),
      c.into_book.result,
      record { book = c.into_book.ensures; seen = c.finish_from-ended.ensures.seen },
      λ enough. rw c.in-Err.ensures.left at (c.in-Err.ensures.astray (omega (arith, enough, c.in-Err.ensures.left))).places,
      omega (arith, c.requires.begun, c.finish_from-ended.ensures.counted),
    )
