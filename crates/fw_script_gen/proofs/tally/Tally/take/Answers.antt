use Rattle.std.proofs.Common.{Result, Ok, Err, MatchResult, List, [], refl, sym, subst, append-nil}
use Rattle.fw_log_entry.specs.declared.entry.Timed.{Timed}
use Rattle.fw_script_gen.specs.Summary.{Counts}
use Rattle.std.proofs.lemmas.Bool.{false≢true}
use Rattle.std.specs.Result.{IsErr}
use Rattle.fw_script_gen.proofs.TallyLaws.{walked_more, walked_all, walked_full}
use Rattle.fw_script_gen.proofs.tally.Tally.take.Goals as goal

-- what holds of each error holds if there is one
failed : {T E : Type 0} (r : Result T E) (P : T → Type 0) (Q : E → Type 0) → IsErr r → ((e : E) → Q e) → MatchResult r P Q
failed (Ok x) P Q h q = absurd (false≢true h)
failed (Err e) P Q h q = q e

pub returns-in_err-self : goal.returns-in_err-self
returns-in_err-self c epoch log more fit e h =
    let w = c.loop-size.invariant epoch log more fit e h in
    let x = walked_full c.entry_size.result c.in-Some.size _ c.counted_in.result w c.in-Some.is c.entry_size.ensures.first c.entry_size.ensures.none c.split_at.ensures.front c.counted_in.ensures
    c.in_err-self.ensures in
    failed c.from_residual.result _ _ c.from_residual.ensures.0 (λ k. x)

pub loop-size-preserved : goal.loop-size-preserved
loop-size-preserved c epoch log more fit e h =
    let w = c.loop-size.invariant epoch log more fit e h in
    walked_more c.entry_size.result c.in-Some.size _ _ c.counted_in.result _ w c.in-Some.is c.entry_size.ensures.first c.entry_size.ensures.none
    c.split_at.ensures.front c.split_at.ensures.back c.counted_in.ensures c.in_ok-self.ensures

pub returns : goal.returns
returns c epoch log more fit e h = walked_all c.entry_size.result (c.loop-size.invariant epoch log more fit e h) c.in_default.is c.entry_size.ensures.first

pub loop-size-init : goal.loop-size-init
loop-size-init c epoch log more fit e h =
    let P : List Timed → Type 0 = λ l. Counts l c.args.self.now in
    record { done = []; left = more; epoch = epoch; parts = refl; fit = fit; bytes = e; counts = subst P (sym (append-nil log)) h }
