use Rattle.std.proofs.Common.{◌≡◌, false, refl, sym, subst, ◌∙◌, arith}
use Rattle.std.proofs.lemmas.Bool.{true≢false}
use Rattle.fw_script_command.specs.Form.{HasForm}
use Rattle.fw_script_command.specs.declared.command.Command.{Command}
use Rattle.fw_script_command.specs.declared.command.Command.TheVariants.{End}
use Rattle.fw_script_command.proofs.FormLaws.{one_form}
use Rattle.fw_explore_movers.specs.Words.{may_stand, too_long, no_line, not_here, too_many}
use Rattle.fw_explore_movers.proofs.TakeLaws.{none_then, some_then}
use Rattle.fw_explore_movers.proofs.reading.Reading.line_in.Goals as goal
use Rattle.fw_explore_movers.proofs.reading.Reading.line_in.Goals.{in-End, in_default}

pub returns-then-word-gt-LINE_LIMIT : goal.returns-then-word-gt-LINE_LIMIT
returns-then-word-gt-LINE_LIMIT c = λ n other stands. too_long other stands (omega arith)

pub returns-then-is_none : goal.returns-then-is_none
returns-then-is_none c = λ n other stands.
    let none : (k : Command) → HasForm k c.args.word.now → ⊥ = none_then c.command_of.result c.if-is_none.ensures c.command_of.ensures.none in
    no_line other stands (omega arith) (λ k line. none k line.form)

pub returns-then-matches : goal.returns-then-matches
returns-then-matches c = λ n other stands.
    let form : HasForm c.command_of.new.out c.args.word.now = some_then c.command_of.result c.if-is_none.ensures c.command_of.ensures.found in
    elim c.match-matches.branch [
      | in-End w ↦ no_line other stands (omega arith) (λ k line. line.no_end (one_form k End c.args.word.now line.form (subst (λ (e : Command). HasForm e c.args.word.now) w.in-End.is form)))
      | in_default w ↦ absurd (true≢false (sym c.if-matches.true ∙ w.matches-is))
    ]

pub returns-then-not-may_stand : goal.returns-then-not-may_stand
returns-then-not-may_stand c = λ n other stands.
    let form : HasForm c.command_of.new.out c.args.word.now = some_then c.command_of.result c.if-is_none.ensures c.command_of.ensures.found in
    let not_there : may_stand c.args.self.now.follows c.command_of.new.out ≡ false = sym c.if-not-may_stand.ensures in
    elim c.match-matches.branch [
      | in-End w ↦ absurd (true≢false (sym w.matches-is ∙ c.if-matches.false))
      | in_default w ↦ not_here c.command_of.new.out other stands (omega arith) (record { form = form; no_end = w.in_default.not-End }) not_there
    ]

pub returns-then-is_full : goal.returns-then-is_full
returns-then-is_full c = λ n other stands.
    let form : HasForm c.command_of.new.out c.args.word.now = some_then c.command_of.result c.if-is_none.ensures c.command_of.ensures.found in
    elim c.match-matches.branch [
      | in-End w ↦ absurd (true≢false (sym w.matches-is ∙ c.if-matches.false))
      | in_default w ↦
          too_many c.command_of.new.out other stands (omega arith) (record { form = form; no_end = w.in_default.not-End }) (sym c.if-not-may_stand.ensures) (c.if-is_full.ensures.0 refl)
    ]
