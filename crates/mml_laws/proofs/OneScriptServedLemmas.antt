-- A server is a house in which each connection has one session. What these sessions answered was said in a house.
use Rattle.std.{proofs.lemmas.Bool.Decides.nat_tests, proofs.lemmas.List.Elements.All-head, proofs.lemmas.List.Elements.All-tail, specs.List.AllByRecursion}
use Rattle.std.proofs.Common.{◌≡◌, ℕ, List, [], ◌∷◌, length, replicate, All, false, Option, refl, arith}
use Rattle.mml_lab.specs.Labs.{LabValue, IsLab}
use Rattle.mml_window.specs.{declared.log.Log.Log, Windows.WindowValue, Windows.window}
use Rattle.mml_window.proofs.PrefixLemmas.{prefix_nil}
use Rattle.mml_serving.specs.{declared.connection.Connection.Connection, declared.connection.EndedSession.EndedSession, Serving.Each, Serving.IsServed, Serving.ServesHouse}
use Rattle.mml_laws.specs.{Served.AreHeard, Served.AreWritten, OneScript.IsOneScript, ServedAnswers.answers_of, ServedAnswers.answers_in_house}
use Rattle.mml_laws.proofs.{ZipsLemmas.zip_append, OneScriptLemmas.one_script, ServedLemmas.house_written}

module _ (lab : LabValue) where
  silent_windows : (us : List WindowValue) → All (λ w. w ≡ window [] []) us → AreHeard lab [] (replicate (length us) []) us
  silent_windows [] idle = tt
  silent_windows (u ∷ us) idle = (All-head (λ w. w ≡ window [] []) u us idle, silent_windows us (All-tail (λ w. w ≡ window [] []) u us idle))

  module _ {R W : Type 0} (remaining : R → Option (List ℕ)) (contents : W → Option (List ℕ)) where
    heard_served : (cs : List (Connection R W)) (ss : List (EndedSession R W)) (ws : List WindowValue) (e : Each (IsServed lab remaining contents) cs ss ws)
        → AreHeard lab [] (answers_of lab remaining contents cs ss ws e) ws
    heard_served [] [] [] e = tt
    heard_served (c ∷ cs) (s ∷ ss) (w ∷ ws) e = (
      (w, record { end = s.end; input = _; left = _; wrote = _; wrote' = _; says = record { ended = e.0.1; all = refl } }, refl),
      heard_served cs ss ws e.1,
    )
    heard_served _ _ _ e = absurd e

    heard_house : {S : Type 0} (sink : S → Option (List ℕ)) (to_come : Option (List (R × W))) (count : ℕ) (sessions : List (EndedSession R W)) (log : Log S)
        (h : ServesHouse lab sink remaining contents to_come count sessions log)
        → AreHeard lab [] (answers_in_house lab sink remaining contents to_come count sessions log h) h.windows
    heard_house sink to_come count sessions log h = grind (arith, nat_tests, zip_append, heard_served, silent_windows)

    pub server_script : {S : Type 0} (sink : S → Option (List ℕ)) (to_come : Option (List (R × W))) (count : ℕ) (sessions : List (EndedSession R W)) (log : Log S)
        (h : ServesHouse lab sink remaining contents to_come count sessions log) → IsLab lab
        → AllByRecursion AreWritten (answers_in_house lab sink remaining contents to_come count sessions log h)
        → IsOneScript lab [] log.events (answers_in_house lab sink remaining contents to_come count sessions log h)
    server_script sink to_come count sessions log h is written =
        one_script lab [] log.events (answers_in_house lab sink remaining contents to_come count sessions log h) h.windows is
        (heard_house sink to_come count sessions log h) written h.serves.all (prefix_nil log.events) h.kept.book.legal h.kept.book.few h.kept.seen h.kept.places

    pub unhalted_server : {S : Type 0} (sink : S → Option (List ℕ)) (to_come : Option (List (R × W))) (count : ℕ) (sessions : List (EndedSession R W)) (log : Log S)
        (h : ServesHouse lab sink remaining contents to_come count sessions log) → IsLab lab → log.halted ≡ false
        → IsOneScript lab [] log.events (answers_in_house lab sink remaining contents to_come count sessions log h)
    unhalted_server sink to_come count sessions log h is going =
        server_script sink to_come count sessions log h is
        (house_written lab [] (answers_in_house lab sink remaining contents to_come count sessions log h) h.windows
        (heard_house sink to_come count sessions log h) (h.kept.unhalted going))
