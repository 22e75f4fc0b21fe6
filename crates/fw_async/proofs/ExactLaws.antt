-- What a reader makes of a piece is the only thing that it can be.
use Rattle.fw_async.proofs.Common.{◌≡◌, inl, inr, ℕ, ◌+◌, ◌-◌, ◌≤◌, ◌<◌, List, [], ◌++◌, length, take, drop, Option, Some, None, arith, refl, ap, sym, subst, ◌∙◌, length-append, cases_lt}
use Rattle.fw_async.proofs.Common.{length-take-le, spelling, Fits, IsPending, fault_of, need, State, Spells, ShowsFault, PacketFault, Packet}
use Rattle.std.proofs.Common.{Result, Ok, Err, IfErr, append-nil}
use Rattle.std.proofs.lemmas.List.{take_all}
use Rattle.fw_async.specs.Reader.{Feeds, FeedsTo, EndsPacket, EndsNothing, IsRefused}
use Rattle.fw_async.specs.declared.reader.Fed.{Fed}
use Rattle.fw_async_fields.proofs.NeedLaws.{need_done, no_whole_prefix, fault_stays}
use Rattle.fw_async.proofs.FeedLaws.{further, stays}
use Rattle.fw_async.proofs.SpelledLaws.{spelled_none}
use Rattle.fw_async.proofs.SpelledSizeLaws.{spelled_need, no_proper_prefix}
use Rattle.fw_async.proofs.SameLaws.{same_packet}

pub whole_from_spells : (p : Packet) (bytes : List ℕ) → Spells p bytes → length bytes ≡ need bytes
whole_from_spells p bytes s = let P : List ℕ → Type 0 = λ b. length b ≡ need b in subst P s.same (sym (spelled_need p s.fits))

pub clear_from_spells : (p : Packet) (bytes : List ℕ) → Spells p bytes → fault_of bytes ≡ None
clear_from_spells p bytes s = ap fault_of (sym s.same) ∙ spelled_none p s.fits

abbrev between : List ℕ → ℕ → ℕ → List ℕ
between piece i k = take (k - i) (drop i piece)

-- a whole packet has no prefix that is whole, pending bytes have none, and a fault stays
whole_once : (old piece : List ℕ) (i k : ℕ) → i ≤ k → k ≤ length piece → length (old ++ take i piece) ≡ need (old ++ take i piece) → length (old ++ take k piece) ≡ need (old ++ take k piece) → i ≡ k
whole_once old piece i k le within a b =
    let done : need (old ++ take k piece) ≡ length (old ++ take i piece) = ap need (further old piece i k le) ∙ need_done (old ++ take i piece) (between piece i k) a in
    let same : length (old ++ take k piece) ≡ length (old ++ take i piece) = b ∙ done in
    let x : length (take i piece) ≡ i = length-take-le i piece (omega arith) in
    let y : length (take k piece) ≡ k = length-take-le k piece within in
    omega (arith, length-append old (take i piece), length-append old (take k piece))

never_whole : {A : Type 0} (old piece : List ℕ) (i k : ℕ) → i ≤ k → length (old ++ take i piece) ≡ need (old ++ take i piece) → IsPending (old ++ take k piece) → A
never_whole old piece i k le a pending =
    let P : List ℕ → Type 0 = IsPending in
    absurd (no_whole_prefix (old ++ take i piece) (between piece i k) (subst P (further old piece i k le) pending) a)

all_of : (old piece : List ℕ) (k : ℕ) → k ≡ length piece → IsPending (old ++ piece) → IsPending (old ++ take k piece)
all_of old piece k e h = let P : List ℕ → Type 0 = λ t. IsPending (old ++ t) in subst P (sym (take_all k piece (omega arith))) h

record Gave (used k : ℕ) (packet : Option Packet) (p : Packet) : Type 0 where
  pub count : used ≡ k
  pub this : packet ≡ Some p

gave_to : (old piece : List ℕ) (used : ℕ) (packet : Option Packet) (new : State) (k : ℕ) (p : Packet) → FeedsTo old piece used packet new → EndsPacket old piece k p → Gave used k packet p
gave_to old piece used None new k p h e = never_whole old piece k (length piece) e.within (whole_from_spells p _ e.spells) (all_of old piece (length piece) refl h.2)
gave_to old piece used (Some q) new k p h e =
    let a = whole_from_spells q (old ++ take used piece) h.0.spells in
    let b = whole_from_spells p (old ++ take k piece) e.spells in
    let count : used ≡ k = elim (cases_lt used k) [ inl less ↦ whole_once old piece used k (omega arith) e.within a b | inr more ↦ sym (whole_once old piece k used more h.0.within b a) ] in
    let same : spelling q ≡ spelling p = h.0.spells.same ∙ ap (λ (n : ℕ). old ++ take n piece) count ∙ sym e.spells.same in
    record { count = count; this = ap Some (same_packet q p h.0.spells.fits e.spells.fits same) }

-- if a prefix of the piece ends a packet, that packet is given
pub gives_packet : (old piece : List ℕ) (r : Result Fed PacketFault) (new : State) → Feeds old piece r new → (k : ℕ) (p : Packet) → k ≤ length piece → Spells p (old ++ take k piece)
    → r ≡ Ok (record { used = k; packet = Some p })
gives_packet old piece (Ok fed) new h k p within s =
    let g = gave_to old piece fed.used fed.packet new k p h (record { within = within; spells = s }) in
    ap (λ (n : ℕ). let r : Result Fed PacketFault = Ok (record { used = n; packet = fed.packet }) in r) g.count
    ∙ ap (λ (o : Option Packet). let r : Result Fed PacketFault = Ok (record { used = k; packet = o }) in r) g.this
gives_packet old piece (Err f) new h k p within s =
    elim (cases_lt h.0.0 k) [
      | inl less ↦ cc (stays old piece (h.0.0 + 1) k f (omega arith) h.0.1.shown, clear_from_spells p (old ++ take k piece) s)
      | inr more ↦ never_whole old piece k h.0.0 more (whole_from_spells p (old ++ take k piece) s) h.0.1.before
    ]

fault_to : {A : Type 0} (old piece : List ℕ) (used : ℕ) (packet : Option Packet) (new : State) (k : ℕ) (f : PacketFault) → FeedsTo old piece used packet new → ShowsFault old piece k f → A
fault_to old piece used None new k f h s = cc (stays old piece (k + 1) (length piece) f (omega (arith, s.within)) s.shown, (all_of old piece (length piece) refl h.2).no_fault)
fault_to old piece used (Some q) new k f h s =
    elim (cases_lt k used) [
      | inl less ↦ cc (stays old piece (k + 1) used f (omega arith) s.shown, clear_from_spells q (old ++ take used piece) h.0.spells)
      | inr more ↦ never_whole old piece used k more (whole_from_spells q (old ++ take used piece) h.0.spells) s.before
    ]

-- if a byte of the piece shows a fault, that fault is answered
pub gives_fault : (old piece : List ℕ) (r : Result Fed PacketFault) (new : State) → Feeds old piece r new → (k : ℕ) (f : PacketFault) → k < length piece → IsPending (old ++ take k piece)
    → fault_of (old ++ take (k + 1) piece) ≡ Some f → r ≡ Err f
gives_fault old piece (Ok fed) new h k f within before shown = fault_to old piece fed.used fed.packet new k f h (record { within = within; before = before; shown = shown })
gives_fault old piece (Err g) new h k f within before shown =
    elim (cases_lt k h.0.0) [
      | inl less ↦ cc (stays old piece (k + 1) h.0.0 f (omega arith) shown, h.0.1.before.no_fault)
      | inr more ↦ elim (cases_lt h.0.0 k) [
        | inl less ↦ cc (stays old piece (h.0.0 + 1) k g (omega arith) h.0.1.shown, before.no_fault)
        | inr same ↦ let e : h.0.0 ≡ k = omega arith in cc (h.0.1.shown, shown, ap (λ (n : ℕ). fault_of (old ++ take (n + 1) piece)) e)
      ]
    ]

none_to : (old piece : List ℕ) (used : ℕ) (packet : Option Packet) (new : State) → FeedsTo old piece used packet new → EndsNothing old piece → (used ≡ length piece) × (packet ≡ None)
none_to old piece used None new h n = (h.0, refl)
none_to old piece used (Some q) new h n = absurd (n.no_packet used q h.0.within h.0.spells)

-- if nothing ends in the piece, all of it is used
pub gives_none : (old piece : List ℕ) (r : Result Fed PacketFault) (new : State) → Feeds old piece r new → EndsNothing old piece → r ≡ Ok (record { used = length piece; packet = None })
gives_none old piece (Ok fed) new h n =
    let g = none_to old piece fed.used fed.packet new h n in
    ap (λ (n : ℕ). let r : Result Fed PacketFault = Ok (record { used = n; packet = fed.packet }) in r) g.0
    ∙ ap (λ (o : Option Packet). let r : Result Fed PacketFault = Ok (record { used = length piece; packet = o }) in r) g.1
gives_none old piece (Err f) new h n =
    let clear : fault_of (old ++ take (h.0.0 + 1) piece) ≡ None = n.no_fault (h.0.0 + 1) (omega (arith, h.0.1.within)) in
    cc (h.0.1.shown)

-- if a fault is answered, no packet begins with the bytes up to the one that shows it
pub gives_no_packet : (old piece : List ℕ) (r : Result Fed PacketFault) (new : State) → Feeds old piece r new → IfErr r (IsRefused old piece)
gives_no_packet old piece (Ok fed) new h = tt
gives_no_packet old piece (Err f) new h = record {
  at = h.0.0;
  shows = h.0.1;
  no_packet_begins = record {
    none = λ p more s. cc (fault_stays (old ++ take (h.0.0 + 1) piece) more f h.0.1.shown, clear_from_spells p ((old ++ take (h.0.0 + 1) piece) ++ more) s);
  };
}

-- no packet's spelling begins with another's
pub spelled_alone : (p q : Packet) (more : List ℕ) → Fits p → Fits q → spelling q ≡ spelling p ++ more → (q ≡ p) × (more ≡ [])
spelled_alone p q more f g e =
    let none : more ≡ [] = no_proper_prefix p q more f g e in
    (same_packet q p g f (e ∙ ap (λ t. spelling p ++ t) none ∙ append-nil (spelling p)), none)
