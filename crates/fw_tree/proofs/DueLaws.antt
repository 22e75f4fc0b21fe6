-- Who may leave in the next round: those that are joined to one that left.
use Rattle.fw_tree.proofs.Common.{◌≡◌, ◌⊎◌, inl, inr, ℕ, zero, suc, suc, ◌<◌, ◌≤◌, ◌+◌, ◌==◌, ◌&&◌, not, List, [], ◌∷◌, length, Option, Some, None, IfSome, IsTrue, Bool, true, false, slice_index_or}
use Rattle.fw_tree.proofs.Common.{slice_set, replicate, arith, refl, sym, ap, ◌∙◌, cases_eq, nat_tests, End, Parent, Peers, peer, InRange, is_seen, is_open, open_count, LeavesBy, AreCables}
use Rattle.std.proofs.Common.{count_by, cond}
use Rattle.std.proofs.lemmas.List.{get_or-replicate}
use Rattle.std.proofs.lemmas.List.Sums.{sum_by-cons}
use Rattle.fw_tree.specs.Parents.{IsDue, IsOpenMarked, staying}
use Rattle.fw_tree.proofs.ForestLaws.{truth, first_of, second_of, open_to, opened}
use Rattle.fw_tree.proofs.ParentLaws.{Leave, leave_more, set_seen_other}
use Rattle.fw_tree.proofs.PlacedLaws.{none_open}
use Rattle.fw_tree.proofs.RoundLaws.{in_range}
use Rattle.fw_tree.proofs.OpenPortLaws.{same_end, same_port}

-- a device that is not due does not leave
not_due : (stays due : Bool) (n : ℕ) → (stays ≡ true → n ≡ 1 → due ≡ true) → due ≡ false → false ≡ (stays && (n == 1))
not_due false due n h e = refl
not_due true due n h e = elim (cases_eq n 1) [
  | inl one ↦ absurd (let x = h refl one in let z : ⊥ = cc in z)
  | inr more ↦ grind (arith, nat_tests)
]

-- in the first round each is
pub due_first : (g : Peers) (d : ℕ) → d < 63 → IsDue g (replicate 63 true) (replicate 63 true) d
due_first g d low still one = get_or-replicate 63 d true false low

-- what is joined to those that left is marked, as far as the devices below i
pub Marked : Peers → List Bool → List Bool → List Bool → ℕ → Type 0
Marked g old now due i = (k : ℕ) → k < i → is_seen old k ≡ true → is_seen now k ≡ false → IsOpenMarked g (is_seen old) k due

all_keep : (g : Peers) (s : ℕ → Bool) (d : ℕ) (due more : List Bool) → ((k : ℕ) → IsTrue (is_seen due k) → IsTrue (is_seen more k)) → IsOpenMarked g s d due → IsOpenMarked g s d more
all_keep g s d due more keeps m p = still (peer g d p) (m p)
  where
    still : (o : Option End) → IfSome o (λ e. s e.device ≡ true → is_seen due e.device ≡ true) → IfSome o (λ e. s e.device ≡ true → is_seen more e.device ≡ true)
    still None h = tt
    still (Some e) h = λ stays. keeps e.device (h stays)

-- a device that leaves has one open cable: where that leads is marked
pub open_marked : (g : Peers) (s : ℕ → Bool) (d q : ℕ) (end : End) (due : List Bool) → LeavesBy g s d q → peer g d q ≡ Some end → is_seen due end.device ≡ true
    → IsOpenMarked g s d due
open_marked g s d q end due l is marked p = go (peer g d p) refl
  where
    go : (o : Option End) → peer g d p ≡ o → IfSome o (λ e. s e.device ≡ true → is_seen due e.device ≡ true)
    go None found = tt
    go (Some e) found = λ stays.
        let k : p ≡ q = same_port g s d p q l.one (opened s (peer g d p) e found stays) l.parent in
        let there : peer g d q ≡ Some e = rw k at found in
        let same : e.device ≡ end.device = same_end (peer g d q) e end there is in
        rw same marked

pub marked_none : (g : Peers) (old now due : List Bool) → Marked g old now due 0
unfolding Marked
marked_none g old now due k low = absurd (omega arith)

pub marked_more : (g : Peers) (round : ℕ) (old now then due more : List Bool) (was par : List (Option Parent)) (i : ℕ) (left : Bool) → Leave g round old now was par i → Marked g old now due i
    → (left ≡ true → then ≡ slice_set now i false) → (left ≡ false → then ≡ now)
    → ((k : ℕ) → IsTrue (is_seen due k) → IsTrue (is_seen more k)) → (left ≡ true → IsOpenMarked g (is_seen old) i more) → Marked g old then more (i + 1)
unfolding Marked
marked_more g round old now then due more was par i true l m gone same keeps marked k low was_in is_out = elim (cases_eq k i) [
  | inl here ↦ rw here (marked refl)
  | inr differ ↦ all_keep g (is_seen old) k due more keeps (m k (omega arith) was_in (sym (set_seen_other now i k differ) ∙ (ap (λ xs. is_seen xs k) (sym (gone refl)) ∙ is_out)))
]
marked_more g round old now then due more was par i false l m gone same keeps marked k low was_in is_out = elim (cases_eq k i) [
  | inl here ↦ absurd (let x : is_seen now k ≡ is_seen old k = l.still k (omega arith) in let y : is_seen now k ≡ false = ap (λ xs. is_seen xs k) (sym (same refl)) ∙ is_out in let z : ⊥ = cc in z)
  | inr differ ↦ all_keep g (is_seen old) k due more keeps (m k (omega arith) was_in (ap (λ xs. is_seen xs k) (sym (same refl)) ∙ is_out))
]

-- what a round has done so far
pub record Going (g : Peers) (round : ℕ) (old stays_now due : List Bool) (was now : List (Option Parent)) (changed : Bool) (i : ℕ) : Type 0 where
  pub leave : Leave g round old stays_now was now i
  pub marked : Marked g old stays_now due i
  pub same : changed ≡ false → stays_now ≡ old
  pub fewer : changed ≡ true → staying stays_now < staying old

pub going_first : (g : Peers) (round : ℕ) (old due : List Bool) (was : List (Option Parent)) → length old ≡ 63 → Going g round old old due was was false 0
going_first g round old due was size = record {
  leave = record { done = λ k m. absurd (omega arith); still = λ k m. refl; notes = λ k m a b. absurd (omega arith); others = λ k m. refl; size = size };
  marked = marked_none g old old due;
  same = λ e. refl;
  fewer = λ e. absurd (let z : ⊥ = cc in z);
}

-- a device that does not leave
going_idle : (g : Peers) (round : ℕ) (old now due : List Bool) (was par : List (Option Parent)) (changed : Bool) (i : ℕ) → i < 63 → Going g round old now due was par changed i
    → false ≡ (is_seen old i && (open_count g (is_seen old) i == 1)) → Going g round old now due was par changed (i + 1)
going_idle g round old now due was par changed i within l stays = record {
  leave = leave_more g round old now now was par par i false within l.leave stays (λ e. absurd (let z : ⊥ = cc in z)) (λ e. absurd (let z : ⊥ = cc in z)) (λ k differ. refl) (λ e. refl) (λ e. refl);
  marked = marked_more g round old now now due due was par i false l.leave l.marked (λ e. absurd (let z : ⊥ = cc in z)) (λ e. refl) (λ k m. m) (λ e. absurd (let z : ⊥ = cc in z));
  same = l.same;
  fewer = l.fewer;
}

-- so it is with one that was not due
pub going_on : (g : Peers) (round : ℕ) (old may now due : List Bool) (was par : List (Option Parent)) (changed : Bool) (i : ℕ) → i < 63 → Going g round old now due was par changed i
    → IsDue g old may i → is_seen may i ≡ false → Going g round old now due was par changed (i + 1)
going_on g round old may now due was par changed i within l h none =
    going_idle g round old now due was par changed i within l (not_due (is_seen old i) (is_seen may i) (open_count g (is_seen old) i) h none)

-- from i on no device has a cable
pub going_all : (g : Peers) (round : ℕ) (old now due : List Bool) (was par : List (Option Parent)) (changed : Bool) (n i : ℕ) → i + n ≡ 63 → ((k p : ℕ) → i ≤ k → peer g k p ≡ None)
    → Going g round old now due was par changed i → Going g round old now due was par changed 63
going_all g round old now due was par changed zero i end none l = let e : i ≡ 63 = omega arith in rw (← e) l
going_all g round old now due was par changed (suc n) i end none l =
    let zero_open = none_open (is_seen old) (slice_index_or g i []) (λ p. none i p (omega arith)) in
    let stays : false ≡ (is_seen old i && (open_count g (is_seen old) i == 1)) = none_leaves (is_seen old i) (open_count g (is_seen old) i) zero_open in
    going_all g round old now due was par changed n (i + 1) (omega arith) (λ k p h. none k p (omega arith)) (going_idle g round old now due was par changed i (omega arith) l stays)
  where
    none_leaves : (b : Bool) (n : ℕ) → n ≡ 0 → false ≡ (b && (n == 1))
    none_leaves b n h = grind (arith, nat_tests)

-- a port that leads to one that the first set has and the second has not
Lost : (ℕ → Bool) → (ℕ → Bool) → Option End → Type 0
Lost s t o = (is_open s o ≡ true) × (is_open t o ≡ false)

-- if fewer cables are open, one of them is open no more
lost_port : (s t : ℕ → Bool) (ports : List (Option End)) → ((p : ℕ) → is_open t (slice_index_or ports p None) ≡ true → is_open s (slice_index_or ports p None) ≡ true)
    → (count_by (is_open s) ports ≡ count_by (is_open t) ports) ⊎ ((p : ℕ) × Lost s t (slice_index_or ports p None))
unfolding Lost
lost_port s t [] fewer = inl refl
lost_port s t (o ∷ ports) fewer = elim (lost_port s t ports (λ p. fewer (suc p))) [
  | inr w ↦ inr (suc w.0, w.1)
  | inl same ↦ elim (truth (is_open s o)) [
    | inl was ↦ elim (truth (is_open t o)) [
      | inl is ↦ inl (alike (was ∙ sym is) same)
      | inr lost ↦ inr (0, (was, lost))
    ]
    | inr shut ↦ elim (truth (is_open t o)) [
      | inl is ↦ absurd (let x = fewer 0 is in let z : ⊥ = cc in z)
      | inr lost ↦ inl (alike (shut ∙ sym lost) same)
    ]
  ]
]
  where
    alike : is_open s o ≡ is_open t o → count_by (is_open s) ports ≡ count_by (is_open t) ports → count_by (is_open s) (o ∷ ports) ≡ count_by (is_open t) (o ∷ ports)
    alike e same =
        sum_by-cons (λ x. cond (is_open s x) 1 0) o ports
        ∙ (ap (λ b. cond b 1 0 + count_by (is_open s) ports) e
        ∙ (ap (λ n. cond (is_open t o) 1 0 + n) same
        ∙ sym (sum_by-cons (λ x. cond (is_open t x) 1 0) o ports)))

-- after a round those are due whose count of open cables is another
pub due_next : (g : Peers) (old now due : List Bool) (d : ℕ) → InRange g → AreCables g → ((k : ℕ) → k < 63 → is_seen now k ≡ (is_seen old k && not (open_count g (is_seen old) k == 1)))
    → Marked g old now due 63 → d < 63 → IsDue g now due d
unfolding Marked Lost
due_next g old now due d range cables after marked low stays one = elim (lost_port (is_seen old) (is_seen now) (slice_index_or g d []) fewer) [
  | inl same ↦ absurd (not_one (open_count g (is_seen old) d) (second_of (is_seen old d) (not (open_count g (is_seen old) d == 1)) (sym (after d low) ∙ stays)) (same ∙ one))
  | inr w ↦ by_port w.0 w.1
]
  where
    fewer : (p : ℕ) → is_open (is_seen now) (peer g d p) ≡ true → is_open (is_seen old) (peer g d p) ≡ true
    fewer p h =
        let o = open_to (is_seen now) (peer g d p) h in
        opened (is_seen old) (peer g d p) o.end o.is (first_of (is_seen old o.end.device) (not (open_count g (is_seen old) o.end.device == 1))
        (sym (after o.end.device (in_range g range d p o.end o.is)) ∙ o.member))

    not_one : (n : ℕ) → not (n == 1) ≡ true → n ≡ 1 → ⊥
    not_one n h e = grind (arith, nat_tests)

    shut : (o : Option End) (e : End) → o ≡ Some e → is_open (is_seen now) o ≡ false → is_seen now e.device ≡ false
    shut None e is h = absurd (let z : ⊥ = cc in z)
    shut (Some f) e is h = let same : f ≡ e = cc in rw (← same) h

    seen_at : (o : Option End) (e : End) → o ≡ Some e → IfSome o (λ f. is_seen old f.device ≡ true → is_seen due f.device ≡ true) → is_seen old e.device ≡ true
        → is_seen due e.device ≡ true
    seen_at None e is h was = absurd (let z : ⊥ = cc in z)
    seen_at (Some f) e is h was = let same : f ≡ e = cc in rw (← same) (h (rw same was))

    by_port : (p : ℕ) → Lost (is_seen old) (is_seen now) (peer g d p) → is_seen due d ≡ true
    by_port p lost =
        let o = open_to (is_seen old) (peer g d p) lost.0 in
        let gone = shut (peer g d p) o.end o.is lost.1 in
        let back = cables.back d p o.end o.is in
        let was : is_seen old d ≡ true = first_of (is_seen old d) (not (open_count g (is_seen old) d == 1)) (sym (after d low) ∙ stays) in
        seen_at (peer g o.end.device o.end.port) (record { device = d; port = p }) back (marked o.end.device (in_range g range d p o.end o.is) o.member gone o.end.port) was
