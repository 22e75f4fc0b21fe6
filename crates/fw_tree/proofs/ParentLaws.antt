-- What the rounds note of a device.
use Rattle.fw_tree.proofs.Common.{replicate, length-set, get_or-set_same, get_or-set_other, ◌≡◌, ◌⊎◌, inl, inr, ℕ, zero, suc, ◌<◌, ◌≤◌, ◌+◌, ◌==◌, ◌&&◌, ◌||◌, not, List, [], ◌∷◌, length, Option, Some}
use Rattle.fw_tree.proofs.Common.{None, Bool, true, false, slice_set, arith, refl, sym, ap, subst, ◌∙◌, cases_eq, Parent, Peers, peer, InRange, is_seen, is_open, open_count, stays, LeavesBy}
use Rattle.fw_tree.proofs.Common.{HasParent, IsParent, Settled, parent_at}
use Rattle.std.proofs.Common.{add-one}
use Rattle.std.proofs.lemmas.List.{get_or-replicate}
use Rattle.fw_tree.specs.Rounds.{WinsTie}
use Rattle.fw_tree.specs.Parents.{Notes, Noted, staying}
use Rattle.fw_tree.proofs.ForestLaws.{truth, first_of, open_to, opened}
use Rattle.fw_tree.proofs.RoundLaws.{open_same, in_range, always}

-- what the devices below i have done in a round
pub record Leave (g : Peers) (round : ℕ) (old stays_now : List Bool) (was now : List (Option Parent)) (i : ℕ) : Type 0 where
  pub done : (k : ℕ) → k < i → is_seen stays_now k ≡ (is_seen old k && not (open_count g (is_seen old) k == 1))
  pub still : (k : ℕ) → i ≤ k → is_seen stays_now k ≡ is_seen old k
  pub notes : (k : ℕ) → k < i → is_seen old k ≡ true → is_seen stays_now k ≡ false → Notes g (is_seen old) round k (parent_at now k)
  pub others : (k : ℕ) → (is_seen stays_now k ≡ is_seen old k) ⊎ (i ≤ k) → parent_at now k ≡ parent_at was k
  pub size : length stays_now ≡ 63

still_there : (b c : Bool) → (b && c) ≡ false → b ≡ (b && not c)
still_there true true h = cc
still_there true false h = refl
still_there false c h = refl

now_gone : (b c : Bool) → (b && c) ≡ true → false ≡ (b && not c)
now_gone true true h = refl
now_gone true false h = cc
now_gone false c h = refl

pub set_seen_other : (xs : List Bool) (i k : ℕ) → (k ≡ i → ⊥) → is_seen (slice_set xs i false) k ≡ is_seen xs k
set_seen_other xs i k differ = get_or-set_other xs i k false false differ

-- the device stays
leave_stay : (g : Peers) (round : ℕ) (old now : List Bool) (was par : List (Option Parent)) (i : ℕ) → Leave g round old now was par i → (is_seen old i && (open_count g (is_seen old) i == 1)) ≡ false
    → Leave g round old now was par (i + 1)
leave_stay g round old now was par i l h = record {
  done = λ k m. elim (cases_eq k i) [
    | inl same ↦ rw same (l.still i (omega arith) ∙ still_there (is_seen old i) (open_count g (is_seen old) i == 1) h)
    | inr differ ↦ l.done k (omega arith)
  ];
  still = λ k m. l.still k (omega arith);
  notes = λ k m a b. elim (cases_eq k i) [
    | inl same ↦ absurd (let x = l.still k (omega arith) in let y : ⊥ = cc in y)
    | inr differ ↦ l.notes k (omega arith) a b
  ];
  others = λ k m. elim m [ inl same ↦ l.others k (inl same) | inr high ↦ l.others k (inr (omega arith)) ];
  size = l.size;
}

-- the device leaves
leave_go : (g : Peers) (round : ℕ) (old now : List Bool) (was par next : List (Option Parent)) (i : ℕ) → i < 63 → Leave g round old now was par i
    → (is_seen old i && (open_count g (is_seen old) i == 1)) ≡ true → Notes g (is_seen old) round i (parent_at next i) → ((k : ℕ) → (k ≡ i → ⊥) → parent_at next k ≡ parent_at par k)
    → Leave g round old (slice_set now i false) was next (i + 1)
leave_go g round old now was par next i within l h noted others =
    let set : is_seen (slice_set now i false) i ≡ false = get_or-set_same now i false false (let s = l.size in omega arith) in
    record {
      done = λ k m. elim (cases_eq k i) [
        | inl same ↦ rw same (set ∙ now_gone (is_seen old i) (open_count g (is_seen old) i == 1) h)
        | inr differ ↦ set_seen_other now i k differ ∙ l.done k (omega arith)
      ];
      still = λ k m. set_seen_other now i k (let d : k ≡ i → ⊥ = λ e. omega arith in d) ∙ l.still k (omega arith);
      notes = λ k m a b. elim (cases_eq k i) [
        | inl same ↦ rw same noted
        | inr differ ↦
            let P : Option Parent → Type 0 = Notes g (is_seen old) round k in
            subst P (sym (others k differ)) (l.notes k (omega arith) a (sym (set_seen_other now i k differ) ∙ b))
      ];
      others = λ k m. elim (cases_eq k i) [
        | inl same ↦ elim m [
          | inl kept ↦ absurd (let x : is_seen (slice_set now i false) i ≡ is_seen old i = rw same at kept in let y = first_of (is_seen old i) (open_count g (is_seen old) i == 1) h in
              let z : ⊥ = cc in z)
          | inr high ↦ absurd (omega arith)
        ]
        | inr differ ↦ others k differ ∙ elim m [
          | inl kept ↦ l.others k (inl (sym (set_seen_other now i k differ) ∙ kept))
          | inr high ↦ l.others k (inr (omega arith))
        ]
      ];
      size = length-set now i false ∙ l.size;
    }

pub leave_more : (g : Peers) (round : ℕ) (old now then : List Bool) (was par next : List (Option Parent)) (i : ℕ) (left : Bool) → i < 63 → Leave g round old now was par i
    → left ≡ (is_seen old i && (open_count g (is_seen old) i == 1)) → (left ≡ true → then ≡ slice_set now i false) → (left ≡ true → Notes g (is_seen old) round i (parent_at next i))
    → ((k : ℕ) → (k ≡ i → ⊥) → parent_at next k ≡ parent_at par k) → (left ≡ false → then ≡ now) → (left ≡ false → next ≡ par) → Leave g round old then was next (i + 1)
leave_more g round old now then was par next i true within l h gone noted others same same_par = rw (gone refl) (leave_go g round old now was par next i within l (sym h) (noted refl) others)
leave_more g round old now then was par next i false within l h gone noted others same same_par = rw (same refl, same_par refl) (leave_stay g round old now was par i l (sym h))

staying_set : (xs : List Bool) (i : ℕ) → is_seen xs i ≡ true → staying (slice_set xs i false) < staying xs
staying_set [] i h = absurd (let e : ⊥ = cc in e)
staying_set (true ∷ xs) zero h = omega arith
staying_set (false ∷ xs) zero h = absurd (let e : ⊥ = cc in e)
staying_set (true ∷ xs) (suc i) h = omega (arith, staying_set xs i h)
staying_set (false ∷ xs) (suc i) h = staying_set xs i h

pub leave_fewer : (g : Peers) (round : ℕ) (old now then : List Bool) (was par : List (Option Parent)) (i : ℕ) (changed left : Bool) → Leave g round old now was par i → (changed ≡ false → now ≡ old)
    → (changed ≡ true → staying now < staying old) → left ≡ (is_seen old i && (open_count g (is_seen old) i == 1)) → (left ≡ true → then ≡ slice_set now i false) → (left ≡ false → then ≡ now)
    → (changed || left) ≡ true → staying then < staying old
leave_fewer g round old now then was par i true true l same fewer h gone kept t = let f =
    staying_set now i (l.still i (omega arith) ∙ first_of (is_seen old i) (open_count g (is_seen old) i == 1) (sym h)) in rw (gone refl) (omega (arith, fewer refl))
leave_fewer g round old now then was par i true false l same fewer h gone kept t = rw (kept refl) (fewer refl)
leave_fewer g round old now then was par i false true l same fewer h gone kept t = let f =
    staying_set now i (l.still i (omega arith) ∙ first_of (is_seen old i) (open_count g (is_seen old) i == 1) (sym h)) in rw (gone refl) (rw (← same refl) f)
leave_fewer g round old now then was par i false false l same fewer h gone kept t = absurd (let e : ⊥ = cc in e)

pub leave_same : (old now then : List Bool) (changed left : Bool) → (changed ≡ false → now ≡ old) → (left ≡ false → then ≡ now) → (changed || left) ≡ false → then ≡ old
leave_same old now then true left same kept t = absurd (let e : ⊥ = cc in e)
leave_same old now then false true same kept t = absurd (let e : ⊥ = cc in e)
leave_same old now then false false same kept t = kept refl ∙ same refl

-- the same devices staying, the same is true of them
abbrev AreSame : (ℕ → Bool) → (ℕ → Bool) → Type 0
AreSame s t = (k : ℕ) → k < 63 → s k ≡ t k

open_move : (g : Peers) (s t : ℕ → Bool) (d p : ℕ) → InRange g → AreSame s t → is_open s (peer g d p) ≡ true → is_open t (peer g d p) ≡ true
open_move g s t d p range same h =
    let w = open_to s (peer g d p) h in
    opened t (peer g d p) w.end w.is (sym (same w.end.device (in_range g range d p w.end w.is)) ∙ w.member)

leaves_move : (g : Peers) (s t : ℕ → Bool) (d p : ℕ) → InRange g → AreSame s t → d < 63 → LeavesBy g s d p → LeavesBy g t d p
leaves_move g s t d p range same h l = record { still = sym (same d h) ∙ l.still; one = sym (open_same g s t d range same) ∙ l.one; parent = open_move g s t d p range same l.parent }

wins_move : (g : Peers) (s t : ℕ → Bool) (d : ℕ) → InRange g → AreSame s t → d < 63 → WinsTie g s d → WinsTie g t d
wins_move g s t d range same h w = (
  w.0,
  w.1,
  record {
    port = w.2.port;
    other = w.2.other;
    first = (leaves_move g s t d w.2.port range same h w.2.first.0, w.2.first.1);
    second = (leaves_move g s t w.0 w.2.other range same (let less = w.1 in omega arith) w.2.second.0, w.2.second.1);
  },
)

note_move : (g : Peers) (s : ℕ → Bool) (r d : ℕ) (o : Option Parent) → InRange g → AreSame s (stays g r) → d < 63 → r < 63 → Notes g s r d o → Noted g d o
note_move g s r d None range same h low w = (r, wins_move g s (stays g r) d range same h w)
note_move g s r d (Some p) range same h low w =
    let e : p.round ≡ r = w.0 in
    let at : HasParent g d p.port r = record { leaves = leaves_move g s (stays g r) d p.port range same h w.2; below = λ v. w.3 (wins_move g (stays g r) s d range (λ k l. sym (same k l)) h v) } in
    let P : ℕ → Type 0 = HasParent g d p.port in
    (omega arith, w.1, subst P (sym e) at)

-- what the rounds before r have done
pub record Gone (g : Peers) (r : ℕ) (now : List Bool) (par : List (Option Parent)) : Type 0 where
  pub same : AreSame (is_seen now) (stays g r)
  pub noted : (d : ℕ) → d < 63 → is_seen now d ≡ false → Noted g d (parent_at par d)
  pub none : (d : ℕ) → d < 63 → is_seen now d ≡ true → parent_at par d ≡ None
  pub bound : r + staying now ≤ 63

pub gone_first : (g : Peers) → Gone g 0 (replicate 63 true) (replicate 63 None)
gone_first g = record {
  same = λ k h. get_or-replicate 63 k true false h;
  noted = λ d h e. absurd (let x : is_seen (replicate 63 true) d ≡ true = get_or-replicate 63 d true false h in let y : ⊥ = cc in y);
  none = λ d h e. blank 63 d;
  bound = omega arith;
}
  where
    blank : (n d : ℕ) → parent_at (replicate n None) d ≡ None
    blank zero d = refl
    blank (suc n) zero = refl
    blank (suc n) (suc d) = blank n d

-- a round after those
abbrev After : Peers → List Bool → List Bool → Type 0
After g now then = (d : ℕ) → d < 63 → is_seen then d ≡ (is_seen now d && not (open_count g (is_seen now) d == 1))

next_round : (g : Peers) (r : ℕ) (now : List Bool) (d : ℕ) → InRange g → AreSame (is_seen now) (stays g r) → d < 63 → (is_seen now d && not (open_count g (is_seen now) d == 1)) ≡ stays g (suc r) d
next_round g r now d range same h = ap (λ b. b && not (open_count g (is_seen now) d == 1)) (same d h) ∙ ap (λ n. stays g r d && not (n == 1)) (open_same g (is_seen now) (stays g r) d range same)

pub gone_more : (g : Peers) (r : ℕ) (now then : List Bool) (par next : List (Option Parent)) → InRange g → Gone g r now par → After g now then
    → ((d : ℕ) → d < 63 → is_seen now d ≡ true → is_seen then d ≡ false → Notes g (is_seen now) r d (parent_at next d))
    → ((d : ℕ) → d < 63 → is_seen then d ≡ is_seen now d → parent_at next d ≡ parent_at par d) → staying then < staying now → Gone g (r + 1) then next
gone_more g r now then par next range l after notes others fewer = rw add-one (record {
  same = λ d h. after d h ∙ next_round g r now d range l.same h;
  noted = λ d h e. elim (truth (is_seen now d)) [
    | inl was ↦ note_move g (is_seen now) r d (parent_at next d) range l.same h (let b = l.bound in omega arith) (notes d h was e)
    | inr gone ↦ let P : Option Parent → Type 0 = Noted g d in subst P (sym (others d h (e ∙ sym gone))) (l.noted d h gone)
  ];
  none = λ d h e.
      let was = first_of (is_seen now d) (not (open_count g (is_seen now) d == 1)) (sym (after d h) ∙ e) in
      others d h (e ∙ sym was) ∙ l.none d h was;
  bound = let b = l.bound in omega arith;
})

pub gone_settled : (g : Peers) (r : ℕ) (now then : List Bool) (par : List (Option Parent)) → InRange g → Gone g r now par → After g now then → then ≡ now → Settled g r
gone_settled g r now then par range l after same d h =
    sym (next_round g r now d range l.same h) ∙ (sym (after d h) ∙ (ap (λ xs. is_seen xs d) same ∙ l.same d h))

pub gone_parents : (g : Peers) (r : ℕ) (now : List Bool) (par : List (Option Parent)) → InRange g → Gone g r now par → Settled g r → (d : ℕ) → d < 63 → IsParent g d (parent_at par d)
gone_parents g r now par range l settled d h = elim (truth (is_seen now d)) [
  | inl still ↦ let P : Option Parent → Type 0 = IsParent g d in subst P (sym (l.none d h still)) (inl (always g r d range settled h (sym (l.same d h) ∙ still)))
  | inr gone ↦ of_note (parent_at par d) (l.noted d h gone)
]
  where
    of_note : (o : Option Parent) → Noted g d o → IsParent g d o
    of_note None w = inr w
    of_note (Some p) w = w
