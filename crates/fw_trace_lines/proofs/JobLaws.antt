-- What becomes of jobs.
use Rattle.std.proofs.Common.{◌≡◌, refl, sym, ap, ◌∙◌, ℕ, not, Bool, true, false, List, [], ◌∷◌, ◌++◌, Option, Some, if◌then◌else◌}
use Rattle.std.specs.List.{filter}
use Rattle.fw_trace_lines.specs.declared.job.TracedConnection.{TracedConnection}
use Rattle.fw_trace_lines.specs.Jobs.{is_now, is_older, is_older_at, aged, displaced, made_after, over_after, after_outcome, with_outcome}

not_true : (b : Bool) → not b ≡ true → b ≡ false
not_true true e = sym e
not_true false e = refl

-- a job that is not over becomes the device's older one
pub displaced_is : (before : Option TracedConnection) (j : TracedConnection) (jobs rows rows' : List TracedConnection) → not j.over ≡ true → before ≡ Some j
    → rows ≡ filter (λ other. not (is_older j.device other)) jobs → rows' ≡ rows ++ aged j ∷ [] → rows' ≡ displaced before jobs
displaced_is before j jobs rows rows' over is dropped pushed =
    let aside = filter (λ other. not (is_older j.device other)) jobs ++ aged j ∷ [] in
    pushed ∙ ap (λ (l : List TracedConnection). l ++ aged j ∷ []) dropped
    ∙ sym (ap (λ (o : Option TracedConnection). displaced o jobs) is ∙ ap (λ (b : Bool). if b then jobs else aside) (not_true j.over over))

-- a job that has its slot is as the outcome leaves it
pub ended_is : (code : ℕ) (job : Option TracedConnection) (j : TracedConnection) (jobs rows rows' : List TracedConnection) (made over : Bool) → j.older ≡ false → job ≡ Some j
    → rows ≡ filter (λ other. not (is_now j.device j.slot other)) jobs → made ≡ made_after code j.made → over ≡ over_after code j.over
    → rows' ≡ rows ++ record { device = j.device; slot = j.slot; connection = j.connection; made = made; over = over; older = j.older } ∷ [] → rows' ≡ with_outcome code job jobs
ended_is code job j jobs rows rows' made over older is dropped m o pushed =
    let gone = filter (λ other. not (is_older_at j.device j.slot other)) jobs in
    let aside = filter (λ other. not (is_now j.device j.slot other)) jobs ++ after_outcome code j ∷ [] in
    pushed ∙ (λ i. rows ++ record { device = j.device; slot = j.slot; connection = j.connection; made = m i; over = o i; older = j.older } ∷ [])
    ∙ ap (λ (l : List TracedConnection). l ++ after_outcome code j ∷ []) dropped
    ∙ sym (ap (λ (o : Option TracedConnection). with_outcome code o jobs) is ∙ ap (λ (b : Bool). if b then gone else aside) older)
