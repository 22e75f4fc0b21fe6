use Rattle.std.proofs.Common.{◌≡◌, ◌<◌, ◌≤◌, length, refl, sym, ap, subst, ◌∙◌, arith}
use Rattle.std.specs.List.{Any}
use Rattle.std.proofs.lemmas.Bool.{false≢true}
use Rattle.fw_script_command.specs.Form.{HasForm}
use Rattle.fw_script_command.specs.declared.command.Command.{Command}
use Rattle.fw_explore_movers.specs.declared.mover.Mover.{Mover}
use Rattle.fw_explore_movers.specs.Words.{Read, HasMover, no_mover, one_too_many, again}
use Rattle.fw_explore_movers.proofs.TakeLaws.{none_then, some_then}
use Rattle.fw_explore_movers.proofs.reading.Reading.half_step_in.Goals as goal

pub returns-then-is_none : goal.returns-then-is_none
returns-then-is_none c = λ n word other no_then e.
    let none : (k : Command) → HasForm k c.args.line.now → ⊥ = none_then c.command_of.result c.if-is_none.ensures c.command_of.ensures.none in
    no_mover other c.requires no_then e none

pub returns-then-len-ge-MOST_MOVERS : goal.returns-then-len-ge-MOST_MOVERS
returns-then-len-ge-MOST_MOVERS c = λ n word other no_then e.
    let form : HasForm c.command_of.new.out c.args.line.now = some_then c.command_of.result c.if-is_none.ensures c.command_of.ensures.found in
    let many : 32 ≤ length c.args.self.now.movers = omega (arith, c.self.inside.movers.ok.0, ap (λ (r : Read). length r.movers) c.self.view_is) in
    one_too_many c.command_of.new.out other c.requires no_then e form many

pub returns-then-has_mover : goal.returns-then-has_mover
returns-then-has_mover c = λ n word other no_then e.
    let form : HasForm c.command_of.new.out c.args.line.now = some_then c.command_of.result c.if-is_none.ensures c.command_of.ensures.found in
    let few : length c.args.self.now.movers < 32 = omega (arith, c.self.inside.movers.ok.0, ap (λ (r : Read). length r.movers) c.self.view_is) in
    let there : HasMover c.args.self.now c.args.line.now = subst (Any (λ (m : Mover). m.line.items ≡ c.args.line.now))
    (c.as_slice.ensures.value ∙ ap (λ (r : Read). r.movers) c.self.view_is) (c.if-has_mover.ensures.0 refl) in
    again c.command_of.new.out other c.requires no_then e form few there

pub returns : goal.returns
returns c =
    let form : HasForm c.command_of.new.out c.args.line.now = some_then c.command_of.result c.if-is_none.ensures c.command_of.ensures.found in
    let few : length c.args.self.now.movers < 32 = omega (arith, c.self.inside.movers.ok.0, ap (λ (r : Read). length r.movers) c.self.view_is) in (
      form,
      few,
      λ there. false≢true (c.if-has_mover.ensures.1 (subst (Any (λ (m : Mover). m.line.items ≡ c.args.line.now))
          (sym (c.as_slice.ensures.value ∙ ap (λ (r : Read). r.movers) c.self.view_is)) there)),
    )
