-- What was kept, and a prefix of the piece.
use Rattle.fw_log.proofs.Common.{◌≡◌, inl, inr, ℕ, ◌+◌, ◌-◌, ◌≤◌, ◌<◌, List, ◌++◌, length, take, drop, Some, None, Ok, Err, arith, ap, sym, subst, ◌∙◌, length-append, cases_lt, take-append-drop}
use Rattle.fw_log.proofs.Common.{take-append-le, length-take-le, take_all, body, version_at, IsPending, Spells, Faulty, ShowsFault, EndsEntry, Position, LogFault}
use Rattle.std.proofs.Common.{length-take}
use Rattle.std.proofs.lemmas.List.{take-take}
use Rattle.std.proofs.Math.Seq.{take-append-add}
use Rattle.fw_log.specs.Reader.{FindsIn}
use Rattle.fw_log.specs.declared.first.Found.{Found}
use Rattle.fw_log.proofs.SameLaws.{spelled_complete}
use Rattle.fw_log.proofs.FeedLaws.{need_most}
use Rattle.fw_log.proofs.StayLaws.{head_stays, need_least, no_complete_prefix}

-- What was kept, and a prefix of the piece.
joined : (old piece : List ℕ) (m k : ℕ) → length old ≤ k → k ≤ length old + m → take k (old ++ take m piece) ≡ old ++ take (k - length old) piece
joined old piece m k from to =
    let e : k ≡ length old + (k - length old) = omega arith in
    ap (λ (n : ℕ). take n (old ++ take m piece)) e ∙ take-append-add old (take m piece) (k - length old) ∙ ap (λ t. old ++ t) (take-take (k - length old) m piece (omega arith))

pub length_joined : (old piece : List ℕ) (m : ℕ) → m ≤ length piece → length (old ++ take m piece) ≡ length old + m
length_joined old piece m within = length-append old (take m piece) ∙ ap (λ n. length old + n) (length-take-le m piece within)

-- a prefix of what is pending is not refused and not whole
not_faulty : {A : Type 0} (s : Position) (prefix more : List ℕ) (f : LogFault) → Faulty s prefix f → IsPending s (prefix ++ more) → A
not_faulty s prefix more f (inl a) pending = cc (head_stays s prefix more f a, pending.no_fault)
not_faulty s prefix more f (inr b) pending = no_complete_prefix s prefix more pending b.complete

in_old : (s : Position) (old piece : List ℕ) (m k : ℕ) → IsPending s old → k ≤ length old → IsPending s (take k (old ++ take m piece) ++ drop k old)
in_old s old piece m k pending within =
    let P : List ℕ → Type 0 = IsPending s in
    subst P (sym (ap (λ t. t ++ drop k old) (take-append-le k old (take m piece) within) ∙ take-append-drop k old)) pending

pub kept_fault : (s : Position) (old piece : List ℕ) (f : LogFault) → IsPending s old → FindsIn s old piece (Err f) → (k : ℕ) × ShowsFault s old piece k f
kept_fault s old piece f pending h =
    let k = h.finds.0 in
    let shows = h.finds.1 in
    let size = length_joined old piece h.count h.within in
    elim (cases_lt h.finds.0 (length old)) [
      | inl less ↦ not_faulty s (take (h.finds.0 + 1) (old ++ take h.count piece)) (drop (h.finds.0 + 1) old) f shows.shown (in_old s old piece h.count (h.finds.0 + 1) pending (omega arith))
      | inr more ↦
          let P : List ℕ → Type 0 = IsPending s in
          let Q : List ℕ → Type 0 = λ x. Faulty s x f in
          let next : h.finds.0 + 1 - length old ≡ h.finds.0 - length old + 1 = omega arith in
          let R : ℕ → Type 0 = λ n. Faulty s (old ++ take n piece) f in (
            h.finds.0 - length old,
            record {
              within = omega (arith, shows.within, size, h.within);
              before = subst P (joined old piece h.count h.finds.0 more (omega (arith, shows.within, size))) shows.before;
              shown = subst R next (subst Q (joined old piece h.count (h.finds.0 + 1) (omega arith) (omega (arith, shows.within, size))) shows.shown);
            },
          )
    ]

pub record KeptEntry (s : Position) (old piece : List ℕ) (found : Found) : Type 0 where
  pub past : length old ≤ found.end
  pub ends : EndsEntry s old piece (found.end - length old) found.entry
  pub size : length (old ++ take (found.end - length old) piece) ≡ found.end
  pub some : 0 < found.end
  pub body : found.body ≡ body found.entry.what
  pub version : found.version ≡ version_at s (old ++ take (found.end - length old) piece)

pub kept_entry : (s : Position) (old piece : List ℕ) (found : Found) → IsPending s old → FindsIn s old piece (Ok (Some found)) → KeptEntry s old piece found
kept_entry s old piece found pending h =
    let size = length_joined old piece h.count h.within in
    let past : length old ≤ found.end = elim (cases_lt found.end (length old)) [
      | inl less ↦ no_complete_prefix s (take found.end (old ++ take h.count piece)) (drop found.end old) (in_old s old piece h.count found.end pending (omega arith))
          (spelled_complete s found.entry _ h.finds.1)
      | inr more ↦ more
    ] in
    let P : List ℕ → Type 0 = Spells s found.entry in
    let within : found.end - length old ≤ length piece = omega (arith, h.finds.0, size, h.within) in
    record {
      past = past;
      ends = record { within = within; spells = subst P (joined old piece h.count found.end past (omega (arith, h.finds.0, size))) h.finds.1 };
      size = length_joined old piece (found.end - length old) within ∙ omega arith;
      some =
          let whole : List ℕ = take found.end (old ++ take h.count piece) in
          omega (arith, length-take found.end (old ++ take h.count piece), spelled_complete s found.entry whole h.finds.1, need_least s whole);
      body = h.finds.2;
      version = h.finds.3 ∙ ap (version_at s) (joined old piece h.count found.end past (omega (arith, h.finds.0, size)));
    }

-- all of the piece is a part of an entry, and there is room for it
pub record KeptPart (s : Position) (old piece : List ℕ) : Type 0 where
  pub pending : IsPending s (old ++ piece)
  pub room : length old + length piece ≤ 2308

pub kept_part : (s : Position) (old piece : List ℕ) → FindsIn s old piece (Ok None) → KeptPart s old piece
kept_part s old piece h =
    let size = length_joined old piece h.count h.within in
    let most = need_most s (old ++ take h.count piece) h.finds in
    let all : h.count ≡ length piece = elim (cases_lt h.count (length piece)) [
      | inl less ↦ absurd (elim (h.enough less) [
        | inl full ↦ omega (arith, full, size, most, h.finds.not_complete)
        | inr there ↦ omega (arith, there, h.finds.not_complete)
      ])
      | inr more ↦ omega (arith, h.within)
    ] in
    let e : old ++ take h.count piece ≡ old ++ piece = ap (λ t. old ++ t) (take_all h.count piece (omega arith)) in
    let P : List ℕ → Type 0 = IsPending s in
    record { pending = subst P e h.finds; room = omega (arith, size, most, h.finds.not_complete, all) }
