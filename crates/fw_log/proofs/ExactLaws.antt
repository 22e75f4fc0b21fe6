-- What a reader makes of a piece is the only thing that it can be.
use Rattle.fw_log.proofs.Common.{◌≡◌, inl, inr, ℕ, ◌+◌, ◌-◌, ◌≤◌, ◌<◌, List, [], ◌++◌, flat_map, get_or, length, take, drop, Option, Some, None, Result, Ok, Err, arith, refl, ap, sym, subst, ◌∙◌}
use Rattle.fw_log.proofs.Common.{length-append, cases_lt, append-nil, take_all, length-take-le, take-append-drop, spelling, IsBody, BodyRefused, epoch_after, head_size, body, Version, IsPending}
use Rattle.fw_log.proofs.Common.{Spells, Faulty, WrongBody, HasEpoch, need, skip, version_at, fault_at, Position, State, Feeds, EndsEntry, ShowsFault, Entry, Timed, LogFed, BodyFault, Fields}
use Rattle.fw_log.proofs.Common.{LogFault}
use Rattle.std.proofs.Common.{IfOk}
use Rattle.std.proofs.lemmas.List.{take-take}
use Rattle.fw_async_fields.proofs.NeedLaws.{fault_stays}
use Rattle.fw_async.proofs.ExactLaws.{clear_from_spells}
use Rattle.fw_async_fields.specs.Reading as Packets
use Rattle.fw_async.specs.Reader.{Spells as SpellsPacket}
use Rattle.fw_async.specs.declared.packet.Packet.{Packet as AsyncPacket}
use Rattle.fw_async_fields.specs.declared.PacketFault.{PacketFault}
use Rattle.fw_cip.specs.Iso.{iso_fault}
use Rattle.fw_cip.proofs.SpelledLaws.{spelled_none as iso_clear}
use Rattle.fw_log.specs.Bodies.{PacketRefuses, refusal}
use Rattle.fw_log.specs.Reading.{EntryRefused}
use Rattle.fw_log.specs.Reader.{FeedsTo, Counts, body_given, total, EndsNothing}
use Rattle.fw_log.specs.declared.BodyFault.TheVariants.{Phy, Packet, Iso}
use Rattle.fw_log.specs.declared.LogWhy.TheVariants.{BadBody}
use Rattle.fw_log.proofs.BodyLaws.{packet_in, iso_in}
use Rattle.fw_log.proofs.IdsLaws.{ids_clear}
use Rattle.fw_log.proofs.ResetLaws.{reset_in, body_has, shape_of}
use Rattle.fw_log.proofs.FeedLaws.{further, stays}
use Rattle.fw_log.proofs.StayLaws.{need_done, no_complete_prefix}
use Rattle.fw_log.proofs.SameLaws.{spelled_clear, spelled_complete, same_spelled, spelled_body, spelled_epoch}
use Rattle.fw_log.proofs.SameBodyLaws.{same_body}

-- a packet is refused at one byte, and for one reason
prefix_of : (k : ℕ) (bytes : List ℕ) → bytes ≡ take k bytes ++ drop k bytes
prefix_of k bytes = sym (take-append-drop k bytes)

fault_on : (bytes : List ℕ) (i k : ℕ) (f : PacketFault) → i ≤ k → Packets.fault_of (take i bytes) ≡ Some f → Packets.fault_of (take k bytes) ≡ Some f
fault_on bytes i k f le h = ap Packets.fault_of (prefix_of i (take k bytes) ∙ ap (λ t. t ++ drop i (take k bytes)) (take-take i k bytes le)) ∙ fault_stays (take i bytes) (drop i (take k bytes)) f h

packet_once : (bytes : List ℕ) (f g : PacketFault) → PacketRefuses bytes f → PacketRefuses bytes g → f ≡ g
packet_once bytes f g h k =
    elim (cases_lt h.at k.at) [
      | inl less ↦ cc (fault_on bytes (h.at + 1) k.at f (omega arith) h.shown.shown, k.shown.before.no_fault)
      | inr more ↦ elim (cases_lt k.at h.at) [
        | inl less ↦ cc (fault_on bytes (k.at + 1) h.at g (omega arith) k.shown.shown, h.shown.before.no_fault)
        | inr same ↦ let e : h.at ≡ k.at = omega arith in cc (h.shown.shown, k.shown.shown, ap (λ (n : ℕ). Packets.fault_of (take (n + 1) bytes)) e)
      ]
    ]

no_packet : (p : AsyncPacket) (bytes : List ℕ) (f : PacketFault) → SpellsPacket p bytes → PacketRefuses bytes f → ⊥
no_packet p bytes f s h =
    cc (fault_on bytes (h.at + 1) (length bytes) f (omega (arith, h.shown.within)) h.shown.shown, ap Packets.fault_of (take_all (length bytes) bytes (omega arith)), clear_from_spells p bytes s)

-- a body is refused for one reason, and none that is an entry's
refused_once : (kind : ℕ) (bytes : List ℕ) (f g : BodyFault) → BodyRefused kind bytes f → BodyRefused kind bytes g → f ≡ g
refused_once kind bytes (Phy f) (Phy g) h k = cc (h.1.here, k.1.here)
refused_once kind bytes (Phy f) (Packet g) h k = cc (h.0, k.0)
refused_once kind bytes (Phy f) (Iso g) h k = cc (h.0, k.0)
refused_once kind bytes (Phy f) Fields h k = absurd (k.1 (Phy f) h)
refused_once kind bytes (Packet f) (Phy g) h k = cc (h.0, k.0)
refused_once kind bytes (Packet f) (Packet g) h k = ap Packet (packet_once bytes f g h.1 k.1)
refused_once kind bytes (Packet f) (Iso g) h k = cc (h.0, k.0)
refused_once kind bytes (Packet f) Fields h k = absurd (k.1 (Packet f) h)
refused_once kind bytes (Iso f) (Phy g) h k = cc (h.0, k.0)
refused_once kind bytes (Iso f) (Packet g) h k = cc (h.0, k.0)
refused_once kind bytes (Iso f) (Iso g) h k = cc (h.1, k.1)
refused_once kind bytes (Iso f) Fields h k = absurd (k.1 (Iso f) h)
refused_once kind bytes Fields (Phy g) h k = absurd (h.1 (Phy g) k)
refused_once kind bytes Fields (Packet g) h k = absurd (h.1 (Packet g) k)
refused_once kind bytes Fields (Iso g) h k = absurd (h.1 (Iso g) k)
refused_once kind bytes Fields Fields h k = refl

as_body : (kind k : ℕ) (bytes : List ℕ) (e : Entry) → kind ≡ k → IsBody kind bytes e → IsBody k bytes e
as_body kind k bytes e is h = let P : ℕ → Type 0 = λ n. IsBody n bytes e in subst P is h

pub not_refused : (kind : ℕ) (bytes : List ℕ) (e : Entry) (f : BodyFault) → IsBody kind bytes e → BodyRefused kind bytes f → ⊥
not_refused kind bytes e (Phy f) b h =
    reset_in bytes e (as_body kind 1 bytes e h.0 b) (λ r fits same.
    let P : List ℕ → Type 0 = λ t. refusal (length t) t ≡ Some f in
    cc (subst P (body_has r bytes (shape_of r fits) same).ids h.1.here, ids_clear (length (flat_map spelling r.ids)) r.ids fits.packets))
not_refused kind bytes e (Packet f) b h = packet_in bytes e (as_body kind 2 bytes e h.0 b) (λ p s. no_packet p bytes f s h.1)
not_refused kind bytes e (Iso f) b h = iso_in bytes e (as_body kind 3 bytes e h.0 b) (λ p fits same. cc (h.1, ap iso_fault (sym same), iso_clear p fits))
not_refused kind bytes e Fields b h = h.0 e b

-- an entry is refused for one reason, and none that is an entry's, with the epoch that is its
entry_once : (v : Version) (epoch : ℕ) (e : List ℕ) (f g : BodyFault) → EntryRefused v epoch e f → EntryRefused v epoch e g → f ≡ g
entry_once v epoch e f g (inl a) (inl b) = refused_once _ _ f g a b
entry_once v epoch e f g (inl a) (inr b) = absurd (not_refused _ _ b.1.entry f b.1.body a)
entry_once v epoch e f g (inr a) (inl b) = absurd (not_refused _ _ a.1.entry g a.1.body b)
entry_once v epoch e f g (inr a) (inr b) = a.0 ∙ sym b.0

entry_right : (v : Version) (epoch : ℕ) (e : List ℕ) (what : Entry) (f : BodyFault) → IsBody (get_or e 0 0) (drop (head_size v) e) what → HasEpoch v (epoch_after epoch what) e
    → EntryRefused v epoch e f → ⊥
entry_right v epoch e what f b own (inl a) = not_refused _ _ what f b a
entry_right v epoch e what f b own (inr a) =
    let o = a.1 in
    let same : o.entry ≡ what = same_body o.entry what o.body.fits b.fits (o.body.kind ∙ sym b.kind) (o.body.same ∙ sym b.same) in
    let P : Entry → Type 0 = λ x. HasEpoch v (epoch_after epoch x) e in
    o.other (subst P (sym same) own)

refused_at : (s : Position) (bytes : List ℕ) (f : LogFault) (w : WrongBody s bytes f) → EntryRefused (version_at s bytes) s.epoch (drop (skip s.start) bytes) w.why
refused_at s bytes f w = let P : Version → Type 0 = λ v. EntryRefused v s.epoch (drop (skip s.start) bytes) w.why in subst P (sym w.here) w.refused

wrong_once : (s : Position) (bytes : List ℕ) (f g : LogFault) → WrongBody s bytes f → WrongBody s bytes g → f ≡ g
wrong_once s bytes f g h k =
    let v : h.version ≡ k.version = sym h.here ∙ k.here in
    h.is ∙ ap (λ w. fault_at (s.start + (skip s.start + head_size h.version)) (BadBody w))
    (entry_once (version_at s bytes) s.epoch (drop (skip s.start) bytes) h.why k.why (refused_at s bytes f h) (refused_at s bytes g k))
    ∙ ap (λ w. fault_at (s.start + (skip s.start + head_size w)) (BadBody k.why)) v ∙ sym k.is

faulty_once : (s : Position) (bytes : List ℕ) (f g : LogFault) → Faulty s bytes f → Faulty s bytes g → f ≡ g
faulty_once s bytes f g (inl a) (inl b) = cc (a, b)
faulty_once s bytes f g (inl a) (inr b) = cc (a, b.no_fault)
faulty_once s bytes f g (inr a) (inl b) = cc (b, a.no_fault)
faulty_once s bytes f g (inr a) (inr b) = wrong_once s bytes f g a.wrong b.wrong

pub not_faulty : {A : Type 0} (s : Position) (t : Timed) (bytes : List ℕ) (f : LogFault) → Spells s t bytes → Faulty s bytes f → A
not_faulty s t bytes f h (inl a) = cc (a, spelled_clear s t bytes h)
not_faulty s t bytes f h (inr b) =
    absurd (entry_right (version_at s bytes) s.epoch (drop (skip s.start) bytes) t.what b.wrong.why (spelled_body s t bytes h) (spelled_epoch s t bytes h) (refused_at s bytes f b.wrong))

-- a whole entry has no prefix that is whole, pending bytes have none, and a fault stays
complete_once : (s : Position) (old piece : List ℕ) (i k : ℕ) → i ≤ k → k ≤ length piece → length (old ++ take i piece) ≡ need s (old ++ take i piece)
    → length (old ++ take k piece) ≡ need s (old ++ take k piece) → i ≡ k
complete_once s old piece i k le within a b =
    let done : need s (old ++ take k piece) ≡ length (old ++ take i piece) = ap (need s) (further old piece i k le) ∙ need_done s (old ++ take i piece) (take (k - i) (drop i piece)) a in
    let same : length (old ++ take k piece) ≡ length (old ++ take i piece) = b ∙ done in
    let x : length (take i piece) ≡ i = length-take-le i piece (omega arith) in
    let y : length (take k piece) ≡ k = length-take-le k piece within in
    omega (arith, length-append old (take i piece), length-append old (take k piece))

pub never_complete : {A : Type 0} (s : Position) (old piece : List ℕ) (i k : ℕ) → i ≤ k → length (old ++ take i piece) ≡ need s (old ++ take i piece) → IsPending s (old ++ take k piece) → A
never_complete s old piece i k le a pending =
    let P : List ℕ → Type 0 = IsPending s in
    no_complete_prefix s (old ++ take i piece) (take (k - i) (drop i piece)) (subst P (further old piece i k le) pending) a

-- no part is refused before pending bytes, nor before an entry's
never_faulty : {A : Type 0} (s : Position) (old piece : List ℕ) (i k : ℕ) (f : LogFault) → i ≤ k → Faulty s (old ++ take i piece) f → IsPending s (old ++ take k piece) → A
never_faulty s old piece i k f le (inl a) pending = cc (stays s old piece i k f le a, pending.no_fault)
never_faulty s old piece i k f le (inr b) pending = never_complete s old piece i k le b.complete pending

pub entry_faulty : {A : Type 0} (s : Position) (old piece : List ℕ) (i k : ℕ) (f : LogFault) (t : Timed) → i ≤ k → k ≤ length piece → Faulty s (old ++ take i piece) f
    → Spells s t (old ++ take k piece) → A
entry_faulty s old piece i k f t le within (inl a) h = cc (stays s old piece i k f le a, spelled_clear s t (old ++ take k piece) h)
entry_faulty s old piece i k f t le within (inr b) h =
    let e : k ≡ i = sym (complete_once s old piece i k le within b.complete (spelled_complete s t (old ++ take k piece) h)) in
    let P : ℕ → Type 0 = λ n. Spells s t (old ++ take n piece) in
    not_faulty s t (old ++ take i piece) f (subst P e h) (inr b)

all_of : (s : Position) (old piece : List ℕ) (k : ℕ) → k ≡ length piece → IsPending s (old ++ piece) → IsPending s (old ++ take k piece)
all_of s old piece k e h = let P : List ℕ → Type 0 = λ t. IsPending s (old ++ t) in subst P (sym (take_all k piece (omega arith))) h

record Gave (used k : ℕ) (entry : Option Timed) (t : Timed) : Type 0 where
  pub count : used ≡ k
  pub this : entry ≡ Some t

gave_to : (s : Position) (old piece : List ℕ) (used : ℕ) (entry : Option Timed) (new : State) (k : ℕ) (t : Timed) → FeedsTo s old piece used entry new → EndsEntry s old piece k t → Gave used k entry t
gave_to s old piece used None new k t h e = never_complete s old piece k (length piece) e.within (spelled_complete s t _ e.spells) (all_of s old piece (length piece) refl h.2)
gave_to s old piece used (Some u) new k t h e =
    let a = spelled_complete s u (old ++ take used piece) h.0.spells in
    let b = spelled_complete s t (old ++ take k piece) e.spells in
    let count : used ≡ k = elim (cases_lt used k) [ inl less ↦ complete_once s old piece used k (omega arith) e.within a b | inr more ↦ sym (complete_once s old piece k used more h.0.within b a) ] in
    let P : ℕ → Type 0 = λ n. Spells s u (old ++ take n piece) in
    record { count = count; this = ap Some (same_spelled s u t (old ++ take k piece) (subst P count h.0.spells) e.spells) }

same_fed : (n k : ℕ) (o p : Option Timed) (x y : List ℕ) → n ≡ k → o ≡ p → x ≡ y →
    let r : Result LogFed LogFault = Ok (record { used = n; entry = o; body = x }) in
    let q : Result LogFed LogFault = Ok (record { used = k; entry = p; body = y }) in r ≡ q
same_fed n k o p x y a b c =
    ap (λ (z : ℕ). let r : Result LogFed LogFault = Ok (record { used = z; entry = o; body = x }) in r) a
    ∙ ap (λ (z : Option Timed). let r : Result LogFed LogFault = Ok (record { used = k; entry = z; body = x }) in r) b
    ∙ ap (λ (z : List ℕ). let r : Result LogFed LogFault = Ok (record { used = k; entry = p; body = z }) in r) c

-- if a prefix of the piece ends an entry, that entry is given
pub gives_entry : (s : Position) (old piece : List ℕ) (r : Result LogFed LogFault) (new : State) → Feeds s old piece r new →
    (k : ℕ) (t : Timed) → EndsEntry s old piece k t → r ≡ Ok (record { used = k; entry = Some t; body = body t.what })
gives_entry s old piece (Ok fed) new h k t e =
    let g = gave_to s old piece fed.used fed.entry new k t h.0 e in
    same_fed fed.used k fed.entry (Some t) fed.body (body t.what) g.count g.this (h.1 ∙ ap body_given g.this)
gives_entry s old piece (Err f) new h k t e =
    elim (cases_lt h.0.0 k) [
      | inl less ↦ entry_faulty s old piece (h.0.0 + 1) k f t (omega arith) e.within h.0.1.shown e.spells
      | inr more ↦ never_complete s old piece k h.0.0 more (spelled_complete s t (old ++ take k piece) e.spells) h.0.1.before
    ]

fault_to : {A : Type 0} (s : Position) (old piece : List ℕ) (used : ℕ) (entry : Option Timed) (new : State) (k : ℕ) (f : LogFault) → FeedsTo s old piece used entry new → ShowsFault s old piece k f → A
fault_to s old piece used None new k f h e = never_faulty s old piece (k + 1) (length piece) f (omega (arith, e.within)) e.shown (all_of s old piece (length piece) refl h.2)
fault_to s old piece used (Some u) new k f h e =
    elim (cases_lt k used) [
      | inl less ↦ entry_faulty s old piece (k + 1) used f u (omega arith) h.0.within e.shown h.0.spells
      | inr more ↦ never_complete s old piece used k more (spelled_complete s u (old ++ take used piece) h.0.spells) e.before
    ]

-- if a byte of the piece completes a part that is refused, that refusal is answered
pub gives_fault : (s : Position) (old piece : List ℕ) (r : Result LogFed LogFault) (new : State) → Feeds s old piece r new → (k : ℕ) (f : LogFault) → ShowsFault s old piece k f → r ≡ Err f
gives_fault s old piece (Ok fed) new h k f e = fault_to s old piece fed.used fed.entry new k f h.0 e
gives_fault s old piece (Err g) new h k f e =
    elim (cases_lt k h.0.0) [
      | inl less ↦ never_faulty s old piece (k + 1) h.0.0 f (omega arith) e.shown h.0.1.before
      | inr more ↦ elim (cases_lt h.0.0 k) [
        | inl less ↦ never_faulty s old piece (h.0.0 + 1) k g (omega arith) h.0.1.shown e.before
        | inr same ↦
            let n : h.0.0 ≡ k = omega arith in
            let P : ℕ → Type 0 = λ m. Faulty s (old ++ take (m + 1) piece) g in
            ap (λ x. let r : Result LogFed LogFault = Err x in r) (faulty_once s (old ++ take (k + 1) piece) g f (subst P n h.0.1.shown) e.shown)
      ]
    ]

record Gives (used k : ℕ) (entry : Option Timed) : Type 0 where
  pub count : used ≡ k
  pub none : entry ≡ None

none_to : (s : Position) (old piece : List ℕ) (used : ℕ) (entry : Option Timed) (new : State) → FeedsTo s old piece used entry new → EndsNothing s old piece → Gives used (length piece) entry
none_to s old piece used None new h e = record { count = h.0; none = refl }
none_to s old piece used (Some t) new h e = absurd (e.no_entry used t h.0.within h.0.spells)

-- if no part is refused and no entry ends, all is taken
pub gives_none : (s : Position) (old piece : List ℕ) (r : Result LogFed LogFault) (new : State) → Feeds s old piece r new →
    EndsNothing s old piece → r ≡ Ok (record { used = length piece; entry = None; body = [] })
gives_none s old piece (Ok fed) new h e =
    let g = none_to s old piece fed.used fed.entry new h.0 e in
    same_fed fed.used (length piece) fed.entry None fed.body [] g.count g.none (h.1 ∙ ap body_given g.none)
gives_none s old piece (Err f) new h e = absurd (e.no_fault (h.0.0 + 1) f (omega (arith, h.0.1.within)) h.0.1.shown)

counts_to : (old : State) (piece : List ℕ) (used : ℕ) (entry : Option Timed) (new : State) → FeedsTo old.stand old.taken piece used entry new → IsPending old.stand old.taken
    → (total new ≡ total old + used) × (used ≤ length piece) × (0 < length piece → 0 < used)
counts_to old piece used None new h pending =
    (omega (arith, ap (λ (r : State). total r) h.1, length-append old.taken piece, h.0), omega (arith, h.0), λ some. omega (arith, h.0, some))
counts_to old piece used (Some t) new h pending =
    let size : length (take used piece) ≡ used = length-take-le used piece h.0.within in (
      omega (arith, ap (λ (r : State). total r) h.1, length-append old.taken (take used piece), size),
      h.0.within,
      λ some. elim (cases_lt 0 used) [
        | inl more ↦ more
        | inr none ↦
            let P : List ℕ → Type 0 = IsPending old.stand in
            let same : old.taken ≡ old.taken ++ take 0 piece = sym (append-nil old.taken) in
            never_complete old.stand old.taken piece used 0 none (spelled_complete old.stand t (old.taken ++ take used piece) h.0.spells) (subst P same pending)
      ],
    )

pub counts : (old : State) (piece : List ℕ) (r : Result LogFed LogFault) (new : State) → Feeds old.stand old.taken piece r new → IsPending old.stand old.taken → Counts old piece r new
counts old piece (Ok fed) new h pending = counts_to old piece fed.used fed.entry new h.0 pending
counts old piece (Err f) new h pending = tt

-- the body that is given is the entry's
pub body_is : (s : Position) (old piece : List ℕ) (r : Result LogFed LogFault) (new : State) → Feeds s old piece r new →
    IfOk r (λ fed. fed.body ≡ body_given fed.entry)
body_is s old piece (Ok fed) new h = h.1
body_is s old piece (Err f) new h = tt
