-- Which movers are there: a line is carried out once, and of equal lines the first comes first.
use Rattle.fw_explore_meaning.proofs.Common.{ℕ, ◌≡◌, ◌+◌, ◌<◌, List, Bool, true, false, IsTrue, IsFalse, get_or, Some, inl, inr, refl, sym, ap, subst, ◌∙◌, arith, cases_eq, same_Some, Explored, Mover}
use Rattle.fw_explore_meaning.proofs.Common.{MoverKind, HalfSteps, Once, IsMover}
use Rattle.std.proofs.Common.{◌&&◌, not, slice_get}
use Rattle.std.specs.Str.{bytes_eq}
use Rattle.std.specs.Cmp.Lexicographic.{bytes_decides}
use Rattle.std.proofs.lemmas.Bool.{false≢true}
use Rattle.fw_explore_meaning.specs.Steps.{is_waiting, AllCame, HasEarlier}

waiting_by : (n : Mover) (done : Bool) (line : List ℕ) (k : MoverKind) → n.kind ≡ k → is_waiting n done line ≡ elim k [ HalfSteps ↦ false | Once ↦ not done && bytes_eq n.line.items line ]
waiting_by n done line k e = ap (λ z. elim z [ HalfSteps ↦ false | Once ↦ not done && bytes_eq n.line.items line ]) e

-- a line like this one that does not wait was carried out
came : (n : Mover) (done : Bool) (line : List ℕ) → n.kind ≡ Once → n.line.items ≡ line → is_waiting n done line ≡ false → done ≡ true
came n true line once same quiet = refl
came n false line once same quiet =
    let waits : bytes_eq n.line.items line ≡ false = sym (waiting_by n false line Once once) ∙ quiet in
    absurd (false≢true (sym waits ∙ (bytes_decides n.line.items line).1 same))

record Waits (n : Mover) (done : Bool) (line : List ℕ) : Type 0 where
  pub once : n.kind ≡ Once
  pub same : n.line.items ≡ line
  pub still : done ≡ false

-- and one that waits is such a line, and was not
waits : (n : Mover) (done : Bool) (line : List ℕ) (k : MoverKind) → n.kind ≡ k → is_waiting n done line ≡ true → Waits n done line
waits n done line HalfSteps e w = absurd (false≢true (sym (waiting_by n done line HalfSteps e) ∙ w))
waits n true line Once e w = absurd (false≢true (sym (waiting_by n true line Once e) ∙ w))
waits n false line Once e w = record { once = e; same = (bytes_decides n.line.items line).0 (sym (waiting_by n false line Once e) ∙ w); still = refl }

module _ (x : Explored) (done : List Bool) (line : List ℕ) where
  -- of the movers below a place none waits
  abbrev pub NoneWaits : ℕ → Type 0
  NoneWaits k = (q : ℕ) (n : Mover) → q < k → IsMover x q n → is_waiting n (get_or done q false) line ≡ false

  pub none_first : NoneWaits 0
  none_first q n less at = absurd (omega (arith, less))

  pub none_more : (k : ℕ) (here : Mover) → IsMover x k here → is_waiting here (get_or done k false) line ≡ false → NoneWaits k → NoneWaits (k + 1)
  none_more k here is quiet before q n less at = elim (cases_eq q k) [
    | inl same ↦
        let at_here : slice_get x.movers.items k ≡ Some n = subst (λ z. slice_get x.movers.items z ≡ Some n) same at in
        let one : here ≡ n = same_Some here n (sym is ∙ at_here) in
        subst (λ z. is_waiting n (get_or done z false) line ≡ false) (sym same) (subst (λ (o : Mover). is_waiting o (get_or done k false) line ≡ false) one quiet)
    | inr other ↦ before q n (omega (arith, less, other)) at
  ]

  module _ (p : ℕ) (m : Mover) (its : line ≡ m.line.items) where
    pub all_came : NoneWaits p → AllCame x done p m
    all_came none q n less at once same = came n (get_or done q false) line once (same ∙ sym its) (none q n less at)

    pub earlier_waits : (k : ℕ) (here : Mover) → k < p → IsMover x k here → is_waiting here (get_or done k false) line ≡ true → HasEarlier x done p m
    earlier_waits k here less is w =
        let h = waits here (get_or done k false) line here.kind refl w in
        record { place = k; mover = here; earlier = less; is = is; once = h.once; same = h.same ∙ its; still = h.still }
