-- The words in their order: the movers, and then the lines after them.
use Rattle.fw_explore.proofs.Common.{ℕ, ◌≡◌, ◌<◌, List, [], ◌∷◌, Bool, Option, Some, None, IsFalse, length, get_or, refl, sym, ap, subst, ◌∙◌, arith, Command, State, Mover, Line}
use Rattle.std.proofs.Common.{◌+◌, ◌&&◌, is_some, IsTrue, inl, inr}
use Rattle.std.specs.List.{filter_map, list_all}
use Rattle.std.proofs.lemmas.Bool.{cases_lt, cases_eq}
use Rattle.std.proofs.lemmas.List.{get_or_default}
use Rattle.fw_devices.specs.Network.{device_named}
use Rattle.fw_explore_movers.specs.declared.fault.WordWhy.TheVariants.{UnknownName}
use Rattle.fw_explore_movers.specs.declared.mover.Explored.{Explored}
use Rattle.fw_explore_movers.specs.Explored.{AreInOrder}
use Rattle.fw_explore.specs.Outcome.{AllKnown, IsFirstUnknown, IsWord, is_device, is_known, names_known}

-- the commands of the first movers, and of the first lines, name declared devices alone
abbrev pub MoversKnown : List (List ℕ) → Explored → ℕ → Type 0
MoversKnown names x i = (k : ℕ) (d : Mover) → k < i → IsTrue (names_known names (get_or x.movers.items k d).command)

abbrev pub LinesKnown : List (List ℕ) → Explored → ℕ → Type 0
LinesKnown names x i = (k : ℕ) (d : Line) → k < i → IsTrue (names_known names (get_or x.following.items k d).command)

pub movers_more : (names : List (List ℕ)) (x : Explored) (i : ℕ) → MoversKnown names x i → (m : Mover) → i < length x.movers.items → m ≡ get_or x.movers.items i m
    → IsTrue (names_known names m.command) → MoversKnown names x (i + 1)
movers_more names x i known m less is t k d below = elim (cases_eq k i) [
  | inl same ↦ subst (λ j. IsTrue (names_known names (get_or x.movers.items j d).command)) (sym same)
      (subst (λ (z : Mover). IsTrue (names_known names z.command)) (is ∙ get_or_default x.movers.items i m d less) t)
  | inr other ↦ known k d (omega (arith, below, other))
]

pub lines_more : (names : List (List ℕ)) (x : Explored) (i : ℕ) → LinesKnown names x i → (l : Line) → i < length x.following.items → l ≡ get_or x.following.items i l
    → IsTrue (names_known names l.command) → LinesKnown names x (i + 1)
lines_more names x i known l less is t k d below = elim (cases_eq k i) [
  | inl same ↦ subst (λ j. IsTrue (names_known names (get_or x.following.items j d).command)) (sym same)
      (subst (λ (z : Line). IsTrue (names_known names z.command)) (is ∙ get_or_default x.following.items i l d less) t)
  | inr other ↦ known k d (omega (arith, below, other))
]

module _ (names : List (List ℕ)) (x : Explored) (s : State) (named : names ≡ s.declared.names) where
  know : (c : Command) → IsTrue (names_known names c) → IsTrue (is_known s c)
  know c t = subst (λ ns. IsTrue (names_known ns c)) named t

  pub all_known : MoversKnown names x (length x.movers.items) → LinesKnown names x (length x.following.items) → AllKnown x s
  all_known movers lines n c (inl w) = let at = w.1 in know c (subst (λ z. IsTrue (names_known names z)) (ap (λ (m : Mover). m.command) at.2 ∙ w.3) (movers at.0 w.0 at.1))
  all_known movers lines n c (inr w) = let at = w.1 in know c (subst (λ z. IsTrue (names_known names z)) (ap (λ (l : Line). l.command) at.2 ∙ w.3) (lines at.0 w.0 at.1))

  module _ (order : AreInOrder x) where
    -- a mover's word is after those of the movers before it
    mover_below : (i k : ℕ) (m o : Mover) → i < length x.movers.items → m ≡ get_or x.movers.items i m → k < length x.movers.items → get_or x.movers.items k o ≡ o → o.word < m.word → k < i
    mover_below i k m o less is within at word = elim (cases_lt k i) [
      | inl below ↦ below
      | inr ge ↦ elim (cases_eq i k) [
        | inl here ↦
            let same : o ≡ m = sym at ∙ ap (λ j. get_or x.movers.items j o) (sym here) ∙ get_or_default x.movers.items i o m less ∙ sym is in
            let words = ap (λ (z : Mover). z.word) same in absurd (omega (arith, word, words))
        | inr n ↦
            let after = order.movers i k o (omega (arith, ge, n)) within in
            let first = ap (λ (z : Mover). z.word) (get_or_default x.movers.items i o m less ∙ sym is) in
            let last = ap (λ (z : Mover). z.word) at in absurd (omega (arith, word, after, first, last))
      ]
    ]

    line_below : (i k : ℕ) (m o : Line) → i < length x.following.items → m ≡ get_or x.following.items i m → k < length x.following.items → get_or x.following.items k o ≡ o → o.word < m.word → k < i
    line_below i k m o less is within at word = elim (cases_lt k i) [
      | inl below ↦ below
      | inr ge ↦ elim (cases_eq i k) [
        | inl here ↦
            let same : o ≡ m = sym at ∙ ap (λ j. get_or x.following.items j o) (sym here) ∙ get_or_default x.following.items i o m less ∙ sym is in
            let words = ap (λ (z : Line). z.word) same in absurd (omega (arith, word, words))
        | inr n ↦
            let after = order.lines i k o (omega (arith, ge, n)) within in
            let first = ap (λ (z : Line). z.word) (get_or_default x.following.items i o m less ∙ sym is) in
            let last = ap (λ (z : Line). z.word) at in absurd (omega (arith, word, after, first, last))
      ]
    ]

    -- the first of the movers
    pub mover_unknown : (i : ℕ) (m : Mover) → i < length x.movers.items → m ≡ get_or x.movers.items i m → IsFalse (names_known names m.command) → MoversKnown names x i
        → IsFirstUnknown x s (record { word = m.word; why = UnknownName })
    mover_unknown i m less is unknown movers = record {
      why = refl;
      command = m.command;
      word = inl (m, (i, less, sym is), refl, refl);
      unknown = subst (λ ns. IsFalse (names_known ns m.command)) named unknown;
      earlier = λ n c sooner w. earlier n c sooner w;
    }
      where
        earlier : (n : ℕ) (c : Command) → n < m.word → IsWord x n c → IsTrue (is_known s c)
        earlier n c sooner (inl w) =
            let at = w.1 in
            let below = mover_below i at.0 m w.0 less is at.1 at.2 (subst (λ z. z < m.word) (sym w.2) sooner) in
            know c (subst (λ z. IsTrue (names_known names z)) (ap (λ (o : Mover). o.command) at.2 ∙ w.3) (movers at.0 w.0 below))
        earlier n c sooner (inr w) =
            let at = w.1 in
            let after = order.apart i m less at.0 w.0 at.1 in
            let first = ap (λ (z : Mover). z.word) is in
            let last = ap (λ (z : Line). z.word) at.2 ∙ w.2 in absurd (omega (arith, sooner, after, first, last))

    -- or of the lines after them
    pub line_unknown : (i : ℕ) (l : Line) → i < length x.following.items → l ≡ get_or x.following.items i l → IsFalse (names_known names l.command) → MoversKnown names x (length x.movers.items)
        → LinesKnown names x i → IsFirstUnknown x s (record { word = l.word; why = UnknownName })
    line_unknown i l less is unknown movers lines = record {
      why = refl;
      command = l.command;
      word = inr (l, (i, less, sym is), refl, refl);
      unknown = subst (λ ns. IsFalse (names_known ns l.command)) named unknown;
      earlier = λ n c sooner w. earlier n c sooner w;
    }
      where
        earlier : (n : ℕ) (c : Command) → n < l.word → IsWord x n c → IsTrue (is_known s c)
        earlier n c sooner (inl w) = let at = w.1 in know c (subst (λ z. IsTrue (names_known names z)) (ap (λ (o : Mover). o.command) at.2 ∙ w.3) (movers at.0 w.0 at.1))
        earlier n c sooner (inr w) =
            let at = w.1 in
            let below = line_below i at.0 l w.0 less is at.1 at.2 (subst (λ z. z < l.word) (sym w.2) sooner) in
            know c (subst (λ z. IsTrue (names_known names z)) (ap (λ (o : Line). o.command) at.2 ∙ w.3) (lines at.0 w.0 below))

-- ---- the names of a command

pub all_devices : (names : List (List ℕ)) (os : List (Option (List ℕ))) → list_all (is_device names) os
    ≡ list_all (λ name. is_some (device_named names name)) (filter_map (λ (o : Option (List ℕ)). o) os)
all_devices names [] = refl
all_devices names (None ∷ os) = all_devices names os
all_devices names (Some name ∷ os) = ap (λ (b : Bool). is_some (device_named names name) && b) (all_devices names os)
