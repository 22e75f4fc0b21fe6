use Rattle.fw_log.proofs.Common.{◌≡◌, ◌+◌, ◌-◌, ◌++◌, ℕ, [], length, take, None, Some, arith, refl, ap, sym, subst, ◌∙◌, epoch_after, position, version_at, State, EndsEntry}
use Rattle.fw_log.proofs.KeptLaws.{kept_fault, kept_entry, kept_part}
use Rattle.fw_log.proofs.FindLaws.{found_as, found_err, pending_at, holds_by, same_state, same_stand}
use Rattle.fw_log.proofs.read.LogReader.keep.Goals as goal

pub append-requires : goal.append-requires
append-requires c =
    let part = kept_part c.args.self.now.stand c.args.self.now.taken c.args.piece.now (found_as _ _ _ _ _ None c.in-Ok-None.is c.in-Ok-None.field-0-is c.requires.found) in
    let same : length c.deref_mut-in-Ok-None.result.now ≡ length c.args.self.now.taken = ap length (c.deref_mut-in-Ok-None.ensures.value ∙ ap (λ (r : State). r.taken) c.self.view_is) in
    omega (arith, same, part.room)

pub invariant_of-self-in-Ok-None : goal.invariant_of-self-in-Ok-None
invariant_of-self-in-Ok-None c =
    let part = kept_part c.args.self.now.stand c.args.self.now.taken c.args.piece.now (found_as _ _ _ _ _ None c.in-Ok-None.is c.in-Ok-None.field-0-is c.requires.found) in
    let taken : c.append.new.self ≡ c.args.self.now.taken ++ c.args.piece.now =
    c.append.ensures ∙ ap (λ t. t ++ c.args.piece.now) (c.deref_mut-in-Ok-None.ensures.value ∙ ap (λ (r : State). r.taken) c.self.view_is) in
    holds_by (position c.self.inside.stand) c.append.new.self c.self.inside.fault (ap (λ (r : State). r.fault) c.self.view_is ∙ c.requires.fresh)
    (pending_at c.args.self.now.stand (position c.self.inside.stand) _ _ (ap (λ (r : State). r.stand) c.self.view_is) taken part.pending)

pub overflow_sub-used : goal.overflow_sub-used
overflow_sub-used c =
    let e = kept_entry c.args.self.now.stand c.args.self.now.taken c.args.piece.now c.in-Ok-Some.found c.requires.pending
    (found_as _ _ _ _ _ (Some c.in-Ok-Some.found) c.in-Ok-Some.is c.in-Ok-Some.field-0-is c.requires.found) in
    let same : length c.as_slice.result.now ≡ length c.args.self.now.taken = ap length (c.as_slice.ensures.value ∙ c.deref.ensures ∙ ap (λ (r : State). r.taken) c.self.view_is) in
    omega (arith, same, e.past)

pub overflow_add-place : goal.overflow_add-place
overflow_add-place c =
    let e = kept_entry c.args.self.now.stand c.args.self.now.taken c.args.piece.now c.in-Ok-Some.found c.requires.pending
    (found_as _ _ _ _ _ (Some c.in-Ok-Some.found) c.in-Ok-Some.is c.in-Ok-Some.field-0-is c.requires.found) in
    let start : c.start.result ≡ c.args.self.now.stand.start = c.start.ensures ∙ ap (λ (r : State). r.stand.start) c.self.view_is in
    omega (arith, start, e.past, e.ends.within, c.requires.room)

pub position_after-self-inside-requires : goal.position_after-self-inside-requires
position_after-self-inside-requires c =
    let e = kept_entry c.args.self.now.stand c.args.self.now.taken c.args.piece.now c.in-Ok-Some.found c.requires.pending
    (found_as _ _ _ _ _ (Some c.in-Ok-Some.found) c.in-Ok-Some.is c.in-Ok-Some.field-0-is c.requires.found) in
    omega (arith, e.some)

pub returns-in-Err-clause-fed : goal.returns-in-Err-clause-fed
returns-in-Err-clause-fed c = (
  kept_fault c.args.self.now.stand c.args.self.now.taken c.args.piece.now c.in-Err.fault c.requires.pending
      (found_err _ _ _ _ c.in-Err.fault c.in-Err.is c.requires.found),
  refl,
)

pub returns-in-Ok-None-clause-fed : goal.returns-in-Ok-None-clause-fed
returns-in-Ok-None-clause-fed c =
    let part = kept_part c.args.self.now.stand c.args.self.now.taken c.args.piece.now (found_as _ _ _ _ _ None c.in-Ok-None.is c.in-Ok-None.field-0-is c.requires.found) in
    let taken : c.append.new.self ≡ c.args.self.now.taken ++ c.args.piece.now =
    c.append.ensures ∙ ap (λ t. t ++ c.args.piece.now) (c.deref_mut-in-Ok-None.ensures.value ∙ ap (λ (r : State). r.taken) c.self.view_is) in (
      (
        refl,
        same_state (position c.self.inside.stand) c.args.self.now.stand _ _ c.self.inside.fault None (ap (λ (r : State). r.stand) c.self.view_is)
            taken (ap (λ (r : State). r.fault) c.self.view_is ∙ c.requires.fresh),
        part.pending,
      ),
      c.new.ensures,
    )

pub returns-in-Ok-Some-clause-fed : goal.returns-in-Ok-Some-clause-fed
returns-in-Ok-Some-clause-fed c =
    let e = kept_entry c.args.self.now.stand c.args.self.now.taken c.args.piece.now c.in-Ok-Some.found c.requires.pending
    (found_as _ _ _ _ _ (Some c.in-Ok-Some.found) c.in-Ok-Some.is c.in-Ok-Some.field-0-is c.requires.found) in
    let same : length c.as_slice.result.now ≡ length c.args.self.now.taken = ap length (c.as_slice.ensures.value ∙ c.deref.ensures ∙ ap (λ (r : State). r.taken) c.self.view_is) in
    let P : ℕ → Type 0 = λ n. EndsEntry c.args.self.now.stand c.args.self.now.taken c.args.piece.now (c.in-Ok-Some.found.end - n) c.in-Ok-Some.found.entry in
    let start : c.start.result ≡ c.args.self.now.stand.start = c.start.ensures ∙ ap (λ (r : State). r.stand.start) c.self.view_is in
    let cut : length (c.args.self.now.taken ++ take (c.in-Ok-Some.found.end - length c.as_slice.result.now) c.args.piece.now) ≡ c.in-Ok-Some.found.end =
    ap (λ n. length (c.args.self.now.taken ++ take (c.in-Ok-Some.found.end - n) c.args.piece.now)) same ∙ e.size in
    let version : c.in-Ok-Some.found.version ≡ version_at c.args.self.now.stand (c.args.self.now.taken ++ take (c.in-Ok-Some.found.end - length c.as_slice.result.now) c.args.piece.now) =
    e.version ∙ ap (λ (n : ℕ). version_at c.args.self.now.stand (c.args.self.now.taken ++ take (c.in-Ok-Some.found.end - n) c.args.piece.now)) (sym same) in
    let epoch : c.epoch.result ≡ c.args.self.now.stand.epoch = c.epoch.ensures ∙ ap (λ (r : State). r.stand.epoch) c.self.view_is in (
      (
        subst P (sym same) e.ends,
        same_state _ _ c.clear.new.self [] c.self.inside.fault None
            (c.position_after-self-inside.ensures ∙ same_stand (c.start.result + c.in-Ok-Some.found.end)
            (c.args.self.now.stand.start + length (c.args.self.now.taken ++ take (c.in-Ok-Some.found.end - length c.as_slice.result.now) c.args.piece.now))
            c.in-Ok-Some.found.entry.cycle _ _ c.in-Ok-Some.found.version
            (version_at c.args.self.now.stand (c.args.self.now.taken ++ take (c.in-Ok-Some.found.end - length c.as_slice.result.now) c.args.piece.now))
            (epoch_after c.epoch.result c.in-Ok-Some.found.entry.what) (epoch_after c.args.self.now.stand.epoch c.in-Ok-Some.found.entry.what)
            (omega (arith, start, cut)) refl version (ap (λ (n : ℕ). epoch_after n c.in-Ok-Some.found.entry.what) epoch))
            c.clear.ensures (ap (λ (r : State). r.fault) c.self.view_is ∙ c.requires.fresh),
      ),
      e.body,
    )
