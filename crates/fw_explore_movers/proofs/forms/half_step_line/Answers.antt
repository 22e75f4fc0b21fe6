use Rattle.std.proofs.Common.{ℕ, ◌≡◌, List, [], ◌∷◌, true, false, Some, sym, ap, ◌∙◌}
use Rattle.fw_script_command.specs.Pieces.{pieces}
use Rattle.fw_explore_movers.specs.Words.{takes_steps}
use Rattle.fw_explore_movers.proofs.TakeLaws.{none_then, some_then}
use Rattle.fw_explore_movers.proofs.HalfStepLaws.{no_pieces, one_piece, none_following, other_after, some_after}
use Rattle.fw_explore_movers.proofs.forms.half_step_line.Goals as goal
use Rattle.fw_explore_movers.proofs.forms.half_step_line.Goals.{then-is_none-via-then-is_none, then-is_none-via-else-is_none+then-not-takes_steps}

pub returns-in_default : goal.returns-in_default
returns-in_default c = no_pieces (pieces 32 c.args.word.now) c.args.word.now (sym c.new-pieces.ensures ∙ c.in_default.ensures.none)

pub returns-then-is_some : goal.returns-then-is_some
returns-then-is_some c =
    let rest : c.next.new.self ≡ [] = some_then c.end.result (sym c.if-is_some.ensures) c.end.ensures.some in
    one_piece (pieces 32 c.args.word.now) c.in-Some.keyword.now c.args.word.now
    (sym c.new-pieces.ensures ∙ c.in-Some.ensures.some ∙ ap (λ (l : List (List ℕ)). c.in-Some.keyword.now ∷ l) rest)
    ∙ ap (λ (l : List ℕ). Some l) (sym c.in_ok-half_step.ensures)

pub returns-then-is_none : goal.returns-then-is_none
returns-then-is_none c =
    let some : c.next.new.self ≡ [] → ⊥ = none_then c.end.result (sym c.if-is_some.ensures) c.end.ensures.none in
    let parts : pieces 32 c.args.word.now ≡ c.in-Some.keyword.now ∷ c.next.new.self = sym c.new-pieces.ensures ∙ c.in-Some.ensures.some in
    elim c.then-is_none.branch [
      | then-is_none-via-then-is_none w ↦
          let more : c.next-name.new.self ≡ [] → ⊥ = none_then c.end-2.result w.if-is_none.ensures c.end-2.ensures.none in
          none_following (pieces 32 c.args.word.now) c.next.new.self c.in-Some.keyword.now c.args.word.now parts some (λ e. more (c.next-name.ensures.left ∙ e))
      | then-is_none-via-else-is_none+then-not-takes_steps w ↦
          let other : takes_steps c.in-Some.keyword.now ≡ false = sym w.if-not-takes_steps.ensures in
          other_after (pieces 32 c.args.word.now) c.next.new.self c.in-Some.keyword.now c.args.word.now parts some other
    ]

pub returns : goal.returns
returns c =
    let some : c.next.new.self ≡ [] → ⊥ = none_then c.end.result (sym c.if-is_some.ensures) c.end.ensures.none in
    let parts : pieces 32 c.args.word.now ≡ c.in-Some.keyword.now ∷ c.next.new.self = sym c.new-pieces.ensures ∙ c.in-Some.ensures.some in
    let end : c.next-name.new.self ≡ [] = some_then c.end-2.result c.if-is_none.ensures c.end-2.ensures.some in
    let steps : takes_steps c.in-Some.keyword.now ≡ true = sym c.if-not-takes_steps.ensures in
    some_after (pieces 32 c.args.word.now) c.next.new.self c.in-Some.keyword.now c.args.word.now parts some (sym c.next-name.ensures.left ∙ end) steps
    ∙ ap (λ (l : List ℕ). Some l) (sym c.in_ok-half_step-2.ensures)
