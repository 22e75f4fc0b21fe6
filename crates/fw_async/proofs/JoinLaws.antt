-- A piece after the bytes that were kept.
use Rattle.fw_async.proofs.Common.{◌≡◌, inl, inr, ℕ, ◌+◌, ◌-◌, ◌≤◌, ◌<◌, List, [], ◌++◌, length, take, drop, Option, Some, None, arith, ap, sym, subst, ◌∙◌, length-append, cases_lt, length-take-le}
use Rattle.fw_async.proofs.Common.{IsPending, fault_of, Spells, ShowsFault, PacketFault, Packet}
use Rattle.std.proofs.Common.{length-take}
use Rattle.std.proofs.lemmas.List.{take_all, take-take, take-append-le, take-append-drop}
use Rattle.std.proofs.Math.Seq.{take-append-add, drop-append_seam}
use Rattle.fw_async.specs.Reader.{HoldsPending, EndsPacket, ReadsTo}
use Rattle.fw_async_fields.proofs.NeedLaws.{need_most, fault_stays, no_whole_prefix}
use Rattle.fw_async.proofs.FeedLaws.{stays}
use Rattle.fw_async.proofs.ExactLaws.{whole_from_spells}

-- No fewer bytes are put together than were kept.
pub none_lost : (piece kept before bytes : List ℕ) → before ≡ kept → bytes ≡ kept ++ take (528 - length kept) piece → length before ≤ length bytes
none_lost piece kept before bytes same all = omega (arith, ap length same, ap length all, length-append kept (take (528 - length kept) piece))

-- What stands after the kept bytes has room after them.
pub has_room : (old piece kept before bytes : List ℕ) → kept ≡ old → length old ≤ 528 → before ≡ kept → bytes ≡ kept ++ take (528 - length kept) piece
    → length old + length (take (length bytes - length before) (drop (length before) bytes)) ≤ 528
has_room old piece kept before bytes is few same all =
    omega (
      arith,
      few,
      ap length is,
      ap length same,
      ap length all,
      length-append kept (take (528 - length kept) piece),
      length-take (528 - length kept) piece,
      length-take (length bytes - length before) (drop (length before) bytes),
    )

-- What was kept, and a prefix of the piece.
joined : (old piece : List ℕ) (m k : ℕ) → length old ≤ k → k ≤ length old + m → take k (old ++ take m piece) ≡ old ++ take (k - length old) piece
joined old piece m k from to =
    let e : k ≡ length old + (k - length old) = omega arith in
    ap (λ (n : ℕ). take n (old ++ take m piece)) e ∙ take-append-add old (take m piece) (k - length old) ∙ ap (λ t. old ++ t) (take-take (k - length old) m piece (omega arith))

length_joined : (old piece : List ℕ) (m : ℕ) → m ≤ length piece → length (old ++ take m piece) ≡ length old + m
length_joined old piece m within = length-append old (take m piece) ∙ ap (λ n. length old + n) (length-take-le m piece within)

-- The bytes are those that were kept and, after them, as many of a piece as there is room for.
pub record IsJoined (old piece bytes : List ℕ) : Type 0 where
  pub count : ℕ
  pub within : count ≤ length piece
  pub enough : count < length piece → 528 ≤ length old + count
  pub same : bytes ≡ old ++ take count piece

pub is_joined : (old piece bytes : List ℕ) → bytes ≡ old ++ take (528 - length old) piece → IsJoined old piece bytes
is_joined old piece bytes e = record {
  count = length piece - (length piece - (528 - length old));
  within = omega arith;
  enough = λ less. omega arith;
  same = e ∙ ap (λ t. old ++ t) (at_most (528 - length old) piece);
}
  where
    at_most : (n : ℕ) (xs : List ℕ) → take n xs ≡ take (length xs - (length xs - n)) xs
    at_most n xs = elim (cases_lt n (length xs)) [
      | inl less ↦ let e : n ≡ length xs - (length xs - n) = omega arith in ap (λ (k : ℕ). take k xs) e
      | inr more ↦ take_all n xs more ∙ sym (take_all (length xs - (length xs - n)) xs (omega arith))
    ]

-- a prefix of what is pending shows no fault, and is not whole
pending_prefix : (old piece : List ℕ) (m k : ℕ) → IsPending old → k ≤ length old → IsPending (take k (old ++ take m piece) ++ drop k old)
pending_prefix old piece m k pending within =
    let P : List ℕ → Type 0 = IsPending in
    subst P (sym (ap (λ t. t ++ drop k old) (take-append-le k old (take m piece) within) ∙ take-append-drop k old)) pending

-- A fault that the bytes show is shown by a byte of the piece.
shown_in : (old piece : List ℕ) (m j : ℕ) (f : PacketFault) → IsPending old → m ≤ length piece → ShowsFault [] (old ++ take m piece) j f → (k : ℕ) × ShowsFault old piece k f
shown_in old piece m j f pending within h =
    let size = length_joined old piece m within in
    elim (cases_lt j (length old)) [
      | inl less ↦ cc (fault_stays (take (j + 1) (old ++ take m piece)) (drop (j + 1) old) f h.shown, (pending_prefix old piece m (j + 1) pending (omega arith)).no_fault)
      | inr more ↦
          let P : List ℕ → Type 0 = IsPending in
          let next : j + 1 - length old ≡ j - length old + 1 = omega arith in (
            j - length old,
            record {
              within = omega (arith, h.within, size, within);
              before = subst P (joined old piece m j more (omega (arith, h.within, size))) h.before;
              shown = ap (λ (n : ℕ). fault_of (old ++ take n piece)) (sym next) ∙ ap fault_of (sym (joined old piece m (j + 1) (omega arith) (omega (arith, h.within, size)))) ∙ h.shown;
            },
          )
    ]

pub kept_fault : (old piece bytes : List ℕ) (f : PacketFault) → IsPending old → IsJoined old piece bytes → (k : ℕ) × ShowsFault [] bytes k f → (k : ℕ) × ShowsFault old piece k f
kept_fault old piece bytes f pending joint h =
    let P : List ℕ → Type 0 = λ t. ShowsFault [] t h.0 f in
    shown_in old piece joint.count h.0 f pending joint.within (subst P joint.same h.1)

-- a fault that a byte shows, all of the bytes show
pub shown_whole : (bytes : List ℕ) (f : PacketFault) → (k : ℕ) × ShowsFault [] bytes k f → fault_of bytes ≡ Some f
shown_whole bytes f h =
    ap fault_of (sym (take_all (length bytes) bytes (omega arith))) ∙ stays [] bytes (h.0 + 1) (length bytes) f (omega (arith, h.1.within)) h.1.shown

-- A packet that the bytes begin with ends after those that were kept.
pub record KeptPacket (old piece : List ℕ) (used : ℕ) (p : Packet) : Type 0 where
  pub past : length old ≤ used
  pub ends : EndsPacket old piece (used - length old) p

packet_in : (old piece : List ℕ) (m used : ℕ) (p : Packet) → IsPending old → m ≤ length piece → EndsPacket [] (old ++ take m piece) used p → KeptPacket old piece used p
packet_in old piece m used p pending within h =
    let size = length_joined old piece m within in
    let past : length old ≤ used = elim (cases_lt used (length old)) [
      | inl less ↦ absurd (no_whole_prefix (take used (old ++ take m piece)) (drop used old) (pending_prefix old piece m used pending (omega arith)) (whole_from_spells p _ h.spells))
      | inr more ↦ more
    ] in
    let P : List ℕ → Type 0 = Spells p in
    record {
      past = past;
      ends = record { within = omega (arith, h.within, size, within); spells = subst P (joined old piece m used past (omega (arith, h.within, size))) h.spells };
    }

pub kept_packet : (old piece bytes : List ℕ) (used : ℕ) (p : Packet) → IsPending old → IsJoined old piece bytes → EndsPacket [] bytes used p → KeptPacket old piece used p
kept_packet old piece bytes used p pending joint h =
    let P : List ℕ → Type 0 = λ t. EndsPacket [] t used p in
    packet_in old piece joint.count used p pending joint.within (subst P joint.same h)

-- If the bytes are a part of a packet, they are all of the piece.
pub kept_part : (old piece bytes : List ℕ) → IsJoined old piece bytes → IsPending bytes → bytes ≡ old ++ piece
kept_part old piece bytes joint pending =
    let size : length bytes ≡ length old + joint.count = ap length joint.same ∙ length_joined old piece joint.count joint.within in
    let most = need_most bytes pending.no_fault in
    let all : joint.count ≡ length piece = elim (cases_lt joint.count (length piece)) [
      | inl less ↦ absurd (omega (arith, joint.enough less, size, most, pending.not_whole))
      | inr more ↦ omega (arith, joint.within)
    ] in
    joint.same ∙ ap (λ t. old ++ t) (take_all joint.count piece (omega arith))

-- what was kept, and what stands after it in the bytes
pub kept_all : (old piece bytes : List ℕ) (n : ℕ) → n ≡ length old → IsJoined old piece bytes → old ++ take (length bytes - n) (drop n bytes) ≡ bytes
kept_all old piece bytes n count joint =
    let following : drop n bytes ≡ take joint.count piece = ap (λ (k : ℕ). drop k bytes) count ∙ ap (drop (length old)) joint.same ∙ drop-append_seam old (take joint.count piece) in
    let size : length bytes - n ≡ length (take joint.count piece) = omega (arith, ap length joint.same, length-append old (take joint.count piece), count) in
    ap (λ t. old ++ take (length bytes - n) t) following ∙ ap (λ t. old ++ t) (take_all (length bytes - n) (take joint.count piece) (omega (arith, size))) ∙ sym joint.same

-- what was read, by its two cases
pub reads_packet_at : (bytes : List ℕ) (used : ℕ) (o : Option Packet) (p : Packet) → o ≡ Some p → ReadsTo bytes used o → EndsPacket [] bytes used p
reads_packet_at bytes used o p e h = let P : Option Packet → Type 0 = ReadsTo bytes used in subst P e h

pub reads_part_at : (bytes : List ℕ) (used : ℕ) (o : Option Packet) → o ≡ None → ReadsTo bytes used o → (used ≡ length bytes) × IsPending bytes
reads_part_at bytes used o e h = let P : Option Packet → Type 0 = ReadsTo bytes used in subst P e h

pub holds_by : (taken : List ℕ) (fault : Option PacketFault) → fault ≡ None → IsPending taken → HoldsPending taken fault
holds_by taken None e h = h
holds_by taken (Some f) e h = cc
