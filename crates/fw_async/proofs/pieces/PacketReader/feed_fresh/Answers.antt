use Rattle.fw_async.proofs.Common.{◌≡◌, ◌-◌, ◌++◌, ℕ, List, [], length, take, drop, None, arith, refl, ap, sym, subst, ◌∙◌, length-append, fault_of, IsPending, State}
use Rattle.fw_async.specs.Reader.{EndsPacket}
use Rattle.fw_async.proofs.FeedLaws.{same_state}
use Rattle.fw_async.proofs.PrefixLaws.{prefix_first}
use Rattle.fw_async.proofs.JoinLaws.{is_joined, kept_all, kept_part, kept_packet, kept_fault, shown_whole, reads_part_at, reads_packet_at, holds_by, none_lost, has_room}
use Rattle.fw_async.proofs.pieces.PacketReader.feed_fresh.Goals as goal

pub invariant_of-self : goal.invariant_of-self
invariant_of-self c =
    let taken : c.self.inside.taken ≡ c.args.self.now.taken = ap (λ (s : State). s.taken) c.self.view_is in
    let joint = is_joined c.args.self.now.taken c.args.piece.now c.as_slice-bytes.result.now
    (c.as_slice-bytes.ensures.value ∙ c.join.ensures ∙ ap (λ t. t ++ take (528 - length t) c.args.piece.now) (c.as_slice.ensures.value ∙ taken)) in
    let count : length c.as_slice-before.result.now ≡ length c.args.self.now.taken = ap length (c.as_slice-before.ensures.value ∙ taken) in
    let bytes : c.append.new.self ≡ c.as_slice-bytes.result.now =
    c.append.ensures ∙ ap (λ t. t ++ take (length c.as_slice-bytes.result.now - length c.as_slice-before.result.now) (drop (length c.as_slice-before.result.now) c.as_slice-bytes.result.now)) taken
    ∙ kept_all c.args.self.now.taken c.args.piece.now c.as_slice-bytes.result.now (length c.as_slice-before.result.now) count joint in
    ap fault_of bytes ∙ shown_whole c.as_slice-bytes.result.now c.in-Err.fault c.in-Err.ensures.reads

pub overflow_sub-result : goal.overflow_sub-result
overflow_sub-result c =
    let taken : c.self.inside.taken ≡ c.args.self.now.taken = ap (λ (s : State). s.taken) c.self.view_is in
    let joint = is_joined c.args.self.now.taken c.args.piece.now c.as_slice-bytes.result.now
    (c.as_slice-bytes.ensures.value ∙ c.join.ensures ∙ ap (λ t. t ++ take (528 - length t) c.args.piece.now) (c.as_slice.ensures.value ∙ taken)) in
    let count : length c.as_slice-before.result.now ≡ length c.args.self.now.taken = ap length (c.as_slice-before.ensures.value ∙ taken) in
    let this = kept_packet c.args.self.now.taken c.args.piece.now c.as_slice-bytes.result.now c.in-Ok.fed.used c.in-Some.packet c.requires.pending joint
    (reads_packet_at c.as_slice-bytes.result.now c.in-Ok.fed.used c.in-Ok.fed.packet c.in-Some.packet c.in-Some.is c.in-Ok.ensures.reads) in
    omega (arith, count, this.past)

pub invariant_of-self-in-None : goal.invariant_of-self-in-None
invariant_of-self-in-None c =
    let taken : c.self.inside.taken ≡ c.args.self.now.taken = ap (λ (s : State). s.taken) c.self.view_is in
    let joint = is_joined c.args.self.now.taken c.args.piece.now c.as_slice-bytes.result.now
    (c.as_slice-bytes.ensures.value ∙ c.join.ensures ∙ ap (λ t. t ++ take (528 - length t) c.args.piece.now) (c.as_slice.ensures.value ∙ taken)) in
    let count : length c.as_slice-before.result.now ≡ length c.args.self.now.taken = ap length (c.as_slice-before.ensures.value ∙ taken) in
    let bytes : c.append-in-None.new.self ≡ c.as_slice-bytes.result.now =
    c.append-in-None.ensures ∙ ap (λ t. t ++ take (length c.as_slice-bytes.result.now - length c.as_slice-before.result.now)
    (drop (length c.as_slice-before.result.now) c.as_slice-bytes.result.now)) taken
    ∙ kept_all c.args.self.now.taken c.args.piece.now c.as_slice-bytes.result.now (length c.as_slice-before.result.now) count joint in
    let part = reads_part_at c.as_slice-bytes.result.now c.in-Ok.fed.used c.in-Ok.fed.packet c.in-None.is c.in-Ok.ensures.reads in
    let clear : c.self.inside.fault ≡ None = ap (λ (s : State). s.fault) c.self.view_is ∙ c.requires.fresh in
    let P : List ℕ → Type 0 = IsPending in
    holds_by c.append-in-None.new.self c.self.inside.fault clear (subst P (sym bytes) part.1)

pub returns-in-Err : goal.returns-in-Err
returns-in-Err c =
    let taken : c.self.inside.taken ≡ c.args.self.now.taken = ap (λ (s : State). s.taken) c.self.view_is in
    let joint = is_joined c.args.self.now.taken c.args.piece.now c.as_slice-bytes.result.now
    (c.as_slice-bytes.ensures.value ∙ c.join.ensures ∙ ap (λ t. t ++ take (528 - length t) c.args.piece.now) (c.as_slice.ensures.value ∙ taken)) in
    let count : length c.as_slice-before.result.now ≡ length c.args.self.now.taken = ap length (c.as_slice-before.ensures.value ∙ taken) in
    let bytes : c.append.new.self ≡ c.as_slice-bytes.result.now =
    c.append.ensures ∙ ap (λ t. t ++ take (length c.as_slice-bytes.result.now - length c.as_slice-before.result.now) (drop (length c.as_slice-before.result.now) c.as_slice-bytes.result.now)) taken
    ∙ kept_all c.args.self.now.taken c.args.piece.now c.as_slice-bytes.result.now (length c.as_slice-before.result.now) count joint in
    let shown = shown_whole c.as_slice-bytes.result.now c.in-Err.fault c.in-Err.ensures.reads in (
      kept_fault c.args.self.now.taken c.args.piece.now c.as_slice-bytes.result.now c.in-Err.fault c.requires.pending joint c.in-Err.ensures.reads,
      refl,
      λ none. cc (shown, ap fault_of (sym bytes ∙ none)),
    )

pub returns-in-Some : goal.returns-in-Some
returns-in-Some c =
    let taken : c.self.inside.taken ≡ c.args.self.now.taken = ap (λ (s : State). s.taken) c.self.view_is in
    let joint = is_joined c.args.self.now.taken c.args.piece.now c.as_slice-bytes.result.now
    (c.as_slice-bytes.ensures.value ∙ c.join.ensures ∙ ap (λ t. t ++ take (528 - length t) c.args.piece.now) (c.as_slice.ensures.value ∙ taken)) in
    let count : length c.as_slice-before.result.now ≡ length c.args.self.now.taken = ap length (c.as_slice-before.ensures.value ∙ taken) in
    let this = kept_packet c.args.self.now.taken c.args.piece.now c.as_slice-bytes.result.now c.in-Ok.fed.used c.in-Some.packet c.requires.pending joint
    (reads_packet_at c.as_slice-bytes.result.now c.in-Ok.fed.used c.in-Ok.fed.packet c.in-Some.packet c.in-Some.is c.in-Ok.ensures.reads) in
    let clear : c.self.inside.fault ≡ None = ap (λ (s : State). s.fault) c.self.view_is ∙ c.requires.fresh in
    let P : ℕ → Type 0 = λ n. EndsPacket c.args.self.now.taken c.args.piece.now (c.in-Ok.fed.used - n) c.in-Some.packet in
    (subst P (sym count) this.ends, same_state c.clear.new.self [] c.self.inside.fault None c.clear.ensures clear)

pub returns-in-None : goal.returns-in-None
returns-in-None c =
    let taken : c.self.inside.taken ≡ c.args.self.now.taken = ap (λ (s : State). s.taken) c.self.view_is in
    let joint = is_joined c.args.self.now.taken c.args.piece.now c.as_slice-bytes.result.now
    (c.as_slice-bytes.ensures.value ∙ c.join.ensures ∙ ap (λ t. t ++ take (528 - length t) c.args.piece.now) (c.as_slice.ensures.value ∙ taken)) in
    let count : length c.as_slice-before.result.now ≡ length c.args.self.now.taken = ap length (c.as_slice-before.ensures.value ∙ taken) in
    let bytes : c.append-in-None.new.self ≡ c.as_slice-bytes.result.now =
    c.append-in-None.ensures ∙ ap (λ t. t ++ take (length c.as_slice-bytes.result.now - length c.as_slice-before.result.now)
    (drop (length c.as_slice-before.result.now) c.as_slice-bytes.result.now)) taken
    ∙ kept_all c.args.self.now.taken c.args.piece.now c.as_slice-bytes.result.now (length c.as_slice-before.result.now) count joint in
    let part = reads_part_at c.as_slice-bytes.result.now c.in-Ok.fed.used c.in-Ok.fed.packet c.in-None.is c.in-Ok.ensures.reads in
    let clear : c.self.inside.fault ≡ None = ap (λ (s : State). s.fault) c.self.view_is ∙ c.requires.fresh in
    let all = kept_part c.args.self.now.taken c.args.piece.now c.as_slice-bytes.result.now joint part.1 in
    let P : List ℕ → Type 0 = IsPending in (
      omega (arith, part.0, count, ap length all, length-append c.args.self.now.taken c.args.piece.now),
      same_state c.append-in-None.new.self (c.args.self.now.taken ++ c.args.piece.now) c.self.inside.fault None (bytes ∙ all) clear,
      subst P all part.1,
    )

pub slice_bounds-append-count : goal.slice_bounds-append-count
slice_bounds-append-count c = none_lost c.args.piece.now c.as_slice.result.now c.as_slice-before.result.now c.as_slice-bytes.result.now (c.as_slice-before.ensures.value ∙ sym c.as_slice.ensures.value)
    (c.as_slice-bytes.ensures.value ∙ c.join.ensures)

pub slice_bounds-append-start : goal.slice_bounds-append-start
slice_bounds-append-start c = none_lost c.args.piece.now c.as_slice.result.now c.as_slice-before.result.now c.as_slice-bytes.result.now (c.as_slice-before.ensures.value ∙ sym c.as_slice.ensures.value)
    (c.as_slice-bytes.ensures.value ∙ c.join.ensures)

pub slice_bounds-append-count-in-None : goal.slice_bounds-append-count-in-None
slice_bounds-append-count-in-None c = none_lost c.args.piece.now c.as_slice.result.now c.as_slice-before.result.now c.as_slice-bytes.result.now
    (c.as_slice-before.ensures.value ∙ sym c.as_slice.ensures.value) (c.as_slice-bytes.ensures.value ∙ c.join.ensures)

pub slice_bounds-append-start-in-None : goal.slice_bounds-append-start-in-None
slice_bounds-append-start-in-None c = none_lost c.args.piece.now c.as_slice.result.now c.as_slice-before.result.now c.as_slice-bytes.result.now
    (c.as_slice-before.ensures.value ∙ sym c.as_slice.ensures.value) (c.as_slice-bytes.ensures.value ∙ c.join.ensures)

pub append-requires : goal.append-requires
append-requires c = (
  omega arith,
  has_room c.self.inside.taken c.args.piece.now c.as_slice.result.now c.as_slice-before.result.now c.as_slice-bytes.result.now c.as_slice.ensures.value c.as_slice.ensures.fits
      (c.as_slice-before.ensures.value ∙ sym c.as_slice.ensures.value) (c.as_slice-bytes.ensures.value ∙ c.join.ensures),
)

pub append-requires-in-None : goal.append-requires-in-None
append-requires-in-None c = (
  omega arith,
  has_room c.self.inside.taken c.args.piece.now c.as_slice.result.now c.as_slice-before.result.now c.as_slice-bytes.result.now c.as_slice.ensures.value c.as_slice.ensures.fits
      (c.as_slice-before.ensures.value ∙ sym c.as_slice.ensures.value) (c.as_slice-bytes.ensures.value ∙ c.join.ensures),
)

pub overflow_sub-result-in-None : goal.overflow_sub-result-in-None
overflow_sub-result-in-None c =
    let part = reads_part_at c.as_slice-bytes.result.now c.in-Ok.fed.used c.in-Ok.fed.packet c.in-None.is c.in-Ok.ensures.reads in
    omega (
      arith,
      part.0,
      none_lost c.args.piece.now c.as_slice.result.now c.as_slice-before.result.now c.as_slice-bytes.result.now (c.as_slice-before.ensures.value ∙ sym c.as_slice.ensures.value)
          (c.as_slice-bytes.ensures.value ∙ c.join.ensures),
    )

pub invariant_of-self-in-Some : goal.invariant_of-self-in-Some
invariant_of-self-in-Some c =
    let clear : c.self.inside.fault ≡ None = ap (λ (s : State). s.fault) c.self.view_is ∙ c.requires.fresh in
    let P : List ℕ → Type 0 = IsPending in
    holds_by c.clear.new.self c.self.inside.fault clear (subst P (sym c.clear.ensures) (prefix_first []))
