-- Self-ID packets, eight bytes more at a time.
use Rattle.fw_log.proofs.Common.{◌≡◌, inl, inr, ℕ, ◌+◌, ◌-◌, ◌*◌, ◌^◌, ◌≤◌, ◌<◌, List, [], ◌∷◌, ◌++◌, ◌==◌, flat_map, length, take, drop, Option, Some, None, arith, refl, ap, sym, subst, ◌∙◌}
use Rattle.fw_log.proofs.Common.{length-append, length-drop, nat_lt, take-add, if◌then◌else◌, cases_lt, nat_tests, take_all, take-append-le, length-take-le, drop-drop, append-nil, All, to_be_bytes}
use Rattle.fw_log.proofs.Common.{w32, quadlet_at, spelling, PhyPacket}
use Rattle.std.proofs.Common.{zero, suc}
use Rattle.std.proofs.lemmas.Grind.{flat_map-append}
use Rattle.std.proofs.lemmas.List.{length-take}
use Rattle.std.proofs.lemmas.List.Elements.{All-push, All-head, All-tail}
use Rattle.std.specs.Option.{option_map}
use Rattle.std.proofs.lemmas.Nat.{from_be_bytes-to_be_bytes_4}
use Rattle.fw_phy.specs.Phy.{Fits, quadlet_of, reserved_bit, phy_fault}
use Rattle.fw_phy.proofs.TagLaws.{spelled_none}
use Rattle.fw_phy.proofs.SameLaws.{same_packet, below}
use Rattle.fw_phy.specs.declared.PhyFault.TheVariants.{Short, NotInverse, Reserved}
use Rattle.fw_phy.specs.declared.PhyFault.{PhyFault}
use Rattle.fw_log.specs.Bodies.{AreIds, refusal, or_else}

-- what was read of the bytes, of which at most 252 packets are kept
pub record IdsRead (ids : List PhyPacket) (bytes : List ℕ) (at : ℕ) : Type 0 where
  pub all : List PhyPacket
  pub read : AreIds all (take at bytes)
  pub count : at ≡ 8 * length all
  pub kept : ids ≡ take 252 all
  pub within : at ≤ length bytes
  pub clear : refusal (length bytes) bytes ≡ refusal (length bytes - length all) (drop at bytes)

long : (xs : List ℕ) → length (take 8 xs) ≡ 8 → 8 ≤ length xs
long xs e = elim (cases_lt (length xs) 8) [ inl less ↦ few less | inr more ↦ more ]
  where
    few : length xs < 8 → 8 ≤ length xs
    few less = let all = ap length (take_all 8 xs (omega arith)) in omega arith

eight : (p : PhyPacket) → length (spelling p) ≡ 8
eight p = refl

ids_more : (ids : List PhyPacket) (p : PhyPacket) (bytes rest : List ℕ) (at : ℕ) → AreIds ids (take at bytes) → rest ≡ drop at bytes → Fits p → take 8 rest ≡ spelling p
    → AreIds (ids ++ p ∷ []) (take (at + 8) bytes)
ids_more ids p bytes rest at h r fits spelled =
    let one : flat_map spelling (p ∷ []) ≡ spelling p = append-nil (spelling p) in
    record {
      fits = All-push Fits ids p h.fits fits;
      same = flat_map-append spelling ids (p ∷ []) ∙ ap (λ t. flat_map spelling ids ++ t) one ∙ ap (λ t. t ++ spelling p) h.same
          ∙ ap (λ t. take at bytes ++ t) (sym spelled ∙ ap (take 8) r) ∙ sym (take-add at 8 bytes);
    }

pub step : (n m : ℕ) (bytes : List ℕ) (x : Option PhyFault) → n ≡ suc m → 0 < length bytes → phy_fault bytes ≡ x → refusal n bytes ≡ or_else x (refusal m (drop 8 bytes))
step n m bytes x e some h = ap (λ k. refusal k bytes) e ∙ by (length bytes) (or_else (phy_fault bytes) (refusal m (drop 8 bytes))) some ∙ ap (λ f. or_else f (refusal m (drop 8 bytes))) h
  where
    by : (k : ℕ) (y : Option PhyFault) → 0 < k → (if k == 0 then None else y) ≡ y
    by k y some = grind (arith, nat_tests)

pub kept_all : (ids : List PhyPacket) (p : PhyPacket) → length ids < 252 → ids ++ p ∷ [] ≡ take 252 (ids ++ p ∷ [])
kept_all ids p less = sym (take_all 252 (ids ++ p ∷ []) (omega (arith, length-append ids (p ∷ []))))

pub kept_full : (ids : List PhyPacket) (p : PhyPacket) → 252 ≤ length ids → length ids ≤ 252 → ids ≡ take 252 (ids ++ p ∷ [])
kept_full ids p more few = sym (take-append-le 252 ids (p ∷ []) more ∙ take_all 252 ids few)

take_twice : (all : List PhyPacket) (p : PhyPacket) → take 252 (take 252 all ++ p ∷ []) ≡ take 252 (all ++ p ∷ [])
take_twice all p =
    elim (cases_lt (length all) 252) [
      | inl less ↦ ap (λ t. take 252 (t ++ p ∷ [])) (take_all 252 all (omega arith))
      | inr more ↦ let size = length-take-le 252 all more in
          take-append-le 252 (take 252 all) (p ∷ []) (omega arith) ∙ take_all 252 (take 252 all) (omega arith) ∙ sym (take-append-le 252 all (p ∷ []) more)
    ]

pub few_kept : (ids : List PhyPacket) (bytes : List ℕ) (at : ℕ) → IdsRead ids bytes at → length ids ≤ 252
few_kept ids bytes at i = let P : List PhyPacket → Type 0 = λ t. length t ≤ 252 in subst P (sym i.kept) (least i.all)
  where
    least : (xs : List PhyPacket) → length (take 252 xs) ≤ 252
    least xs = omega (arith, length-take 252 xs)

pub ids_next : (ids new : List PhyPacket) (bytes rest : List ℕ) (at : ℕ) (p : PhyPacket) → IdsRead ids bytes at → at < length bytes → rest ≡ drop at bytes → phy_fault rest ≡ None → Fits p
    → take 8 rest ≡ spelling p → new ≡ take 252 (ids ++ p ∷ []) → IdsRead new bytes (at + 8)
ids_next ids new bytes rest at p i more r clear fits spelled e =
    let size : 8 ≤ length rest = long rest (ap length spelled ∙ eight p) in
    let here : phy_fault (drop at bytes) ≡ None = ap phy_fault (sym r) ∙ clear in
    let some : 0 < length (drop at bytes) = omega (arith, length-drop at bytes) in
    let grown : length (i.all ++ p ∷ []) ≡ length i.all + 1 = length-append i.all (p ∷ []) in
    record {
      all = i.all ++ p ∷ [];
      read = ids_more i.all p bytes rest at i.read r fits spelled;
      count = omega (arith, i.count);
      kept = e ∙ ap (λ t. take 252 (t ++ p ∷ [])) i.kept ∙ take_twice i.all p;
      within = omega (arith, length-drop at bytes, ap length r);
      clear = i.clear ∙ step (length bytes - length i.all) (length bytes - length (i.all ++ p ∷ [])) (drop at bytes) None (omega (arith, i.count)) some here
          ∙ ap (refusal (length bytes - length (i.all ++ p ∷ []))) (drop-drop 8 at bytes);
    }

pub ids_refused : (ids : List PhyPacket) (bytes rest : List ℕ) (at : ℕ) (f : PhyFault) → IdsRead ids bytes at → at < length bytes → rest ≡ drop at bytes → phy_fault rest ≡ Some f
    → refusal (length bytes) bytes ≡ Some f
ids_refused ids bytes rest at f i more r h =
    let here : phy_fault (drop at bytes) ≡ Some f = ap phy_fault (sym r) ∙ h in
    let some : 0 < length (drop at bytes) = omega (arith, length-drop at bytes) in
    i.clear ∙ step (length bytes - length i.all) (length bytes - length i.all - 1) (drop at bytes) (Some f) (omega (arith, i.count)) some here

-- the quadlet at the beginning, and the one after it
pub back : (a : ℕ) (rest : List ℕ) → a < 2 ^ 32 → quadlet_at (to_be_bytes w32 a ++ rest) 0 ≡ a
back a rest h = from_be_bytes-to_be_bytes_4 a h

cons_both : (p q : PhyPacket) (ps qs : List PhyPacket) → p ≡ q → ps ≡ qs → p ∷ ps ≡ q ∷ qs
cons_both p q ps qs e f = cc

-- one list of bytes is of one list of packets
pub same_ids : (a b : List PhyPacket) → All Fits a → All Fits b → flat_map spelling a ≡ flat_map spelling b → a ≡ b
same_ids [] [] f g e = refl
same_ids [] (q ∷ qs) f g e = cc e
same_ids (p ∷ ps) [] f g e = cc e
same_ids (p ∷ ps) (q ∷ qs) f g e =
    let here : Fits p = All-head Fits p ps f in
    let there : Fits q = All-head Fits q qs g in
    let first : quadlet_of p ≡ quadlet_of q = sym (back (quadlet_of p) (drop 4 (flat_map spelling (p ∷ ps))) (below p here)) ∙ ap (λ t. quadlet_at t 0) e
    ∙ back (quadlet_of q) (drop 4 (flat_map spelling (q ∷ qs))) (below q there) in
    let rest : flat_map spelling ps ≡ flat_map spelling qs = ap (drop 8) e in
    cons_both p q ps qs (same_packet p q here there first) (same_ids ps qs (All-tail Fits p ps f) (All-tail Fits q qs g) rest)

none_left : (n : ℕ) (bytes : List ℕ) → length bytes ≡ 0 → refusal n bytes ≡ None
none_left zero bytes e = refl
none_left (suc n) bytes e = by (length bytes) (or_else (phy_fault bytes) (refusal n (drop 8 bytes))) e
  where
    by : (k : ℕ) (y : Option PhyFault) → k ≡ 0 → (if k == 0 then None else y) ≡ None
    by k y e = grind (arith, nat_tests)

clear_all : (ids : List PhyPacket) (bytes : List ℕ) (at : ℕ) → IdsRead ids bytes at → length bytes ≤ at → refusal (length bytes) bytes ≡ None
clear_all ids bytes at i done = i.clear ∙ none_left (length bytes - length i.all) (drop at bytes) (omega (arith, length-drop at bytes))

all_are : (ids : List PhyPacket) (bytes : List ℕ) (at : ℕ) (i : IdsRead ids bytes at) → length bytes ≤ at → AreIds i.all bytes
all_are ids bytes at i done = let P : List ℕ → Type 0 = AreIds i.all in subst P (take_all at bytes done) i.read

pub ids_are : (ids : List PhyPacket) (bytes : List ℕ) (at : ℕ) → IdsRead ids bytes at → length bytes ≤ at → at ≤ 2016 → AreIds ids bytes × (length ids ≤ 252)
ids_are ids bytes at i done few =
    let kept : ids ≡ i.all = i.kept ∙ take_all 252 i.all (omega (arith, i.count)) in
    let P : List PhyPacket → Type 0 = λ x. AreIds x bytes in
    (subst P (sym kept) (all_are ids bytes at i done), few_kept ids bytes at i)

pub too_many : (ids : List PhyPacket) (bytes : List ℕ) (at : ℕ) → IdsRead ids bytes at → length bytes ≤ at → 2016 < at
    → (refusal (length bytes) bytes ≡ None) × ((others : List PhyPacket) → length others ≤ 252 → AreIds others bytes → ⊥)
too_many ids bytes at i done many = (
  clear_all ids bytes at i done,
  λ others few o. let mine = all_are ids bytes at i done in
      let same : i.all ≡ others = same_ids i.all others mine.fits o.fits (mine.same ∙ sym o.same) in
      omega (arith, i.count, ap length same),
)

-- bytes that are packets are refused nowhere
not_refused : (n q r k : ℕ) → 8 ≤ n → q ≡ k → r ≡ 2 ^ 32 - 1 - k → reserved_bit k ≡ None
    → (if nat_lt n 8 then Some Short else if r == 2 ^ 32 - 1 - q then option_map Reserved (reserved_bit q) else Some NotInverse) ≡ None
not_refused n q r k enough e f none =
    let o : option_map Reserved (reserved_bit q) ≡ None = ap (λ m. option_map Reserved (reserved_bit m)) e ∙ ap (option_map Reserved) none in
    by n q r (option_map Reserved (reserved_bit q)) enough (f ∙ ap (λ m. 2 ^ 32 - 1 - m) (sym e)) o
  where
    by : (n q r : ℕ) (o : Option PhyFault) → 8 ≤ n → r ≡ 2 ^ 32 - 1 - q → o ≡ None → (if nat_lt n 8 then Some Short else if r == 2 ^ 32 - 1 - q then o else Some NotInverse) ≡ None
    by n q r o enough f g = grind (arith, nat_tests)

spelled_clear : (p : PhyPacket) (rest : List ℕ) → Fits p → phy_fault (spelling p ++ rest) ≡ None
spelled_clear p rest fits =
    let small : quadlet_of p < 2 ^ 32 = below p fits in
    not_refused (length (spelling p ++ rest)) (quadlet_at (spelling p ++ rest) 0) (quadlet_at (spelling p ++ rest) 4) (quadlet_of p) (omega (arith, length-append (spelling p) rest, eight p))
    (back (quadlet_of p) (drop 4 (spelling p ++ rest)) small) (back (2 ^ 32 - 1 - quadlet_of p) rest (omega arith)) (spelled_none p fits)

pub ids_clear : (n : ℕ) (ids : List PhyPacket) → All Fits ids → refusal n (flat_map spelling ids) ≡ None
ids_clear zero ids f = refl
ids_clear (suc n) [] f = refl
ids_clear (suc n) (p ∷ ps) f =
    step (suc n) n (flat_map spelling (p ∷ ps)) None refl (omega arith) (spelled_clear p (flat_map spelling ps) (All-head Fits p ps f)) ∙ ids_clear n ps (All-tail Fits p ps f)
