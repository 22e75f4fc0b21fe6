-- Each order has one result.
use Rattle.fw_model_run.proofs.Common.{◌≡◌, ◌⊎◌, inl, inr, ℕ, zero, suc, List, [], ◌∷◌, ◌++◌, Bool, true}
use Rattle.fw_model_run.proofs.Common.{false, Option, Some, None, is_some, refl, ap, sym, subst, ◌∙◌, arith, IsTrue, IsFalse, Timed}
use Rattle.fw_model_run.proofs.Common.{Order, State, living, Action}
use Rattle.fw_model_run.proofs.Common.{Unsettled}
use Rattle.fw_model_run.proofs.Common.{SendCommand, SendFrame, Receive, InsertTape, EjectTape, Transitions}
use Rattle.fw_model_run.proofs.Common.{half_steps_of, Rounds}
use Rattle.fw_model_run.proofs.Common.{SendsAll, quiet, sends}
use Rattle.fw_model_run.proofs.Common.{Obeyed, DeskRelations, IsFunction, next_told, Transition, IsGiven, AreGiven, IsGood}
use Rattle.fw_order.specs.declared.order.Order.TheVariants as order
use Rattle.fw_model_run.specs.HalfSteps.{is_unsettled}
use Rattle.fw_model_run.specs.Orders.{actions_of}
use Rattle.fw_model_run.proofs.Decided.{CarriedAs, CarriedBy, Undecided}
use Rattle.fw_model_run.proofs.Idle.{RoundsAre, are_none, are_round, are_rest, rounds_are, idle_rounds}
use Rattle.fw_model_run.proofs.Runs.{rounds_steps}
use Rattle.fw_model_run.proofs.Steps.{steps_good}
use Rattle.fw_model_run.proofs.OneFrame.{one_obeyed}
use Rattle.fw_model_run.proofs.OneStep.{Same, one_step, one_steps}
use Rattle.fw_model_run.proofs.OneCycle.{one_cycles}

-- ---- rounds

OneRounds : ℕ → Type 0
OneRounds n = (s t u : State) (xs ys : List Action) (out other : List Timed) → IsGood s → Rounds n s xs out t → Rounds n s ys other u → Same out t other u

idle_same : (n : ℕ) (s t u : State) (xs ys : List Action) (out other : List Timed) → IsGood s → is_unsettled s ≡ false → Rounds n s xs out t → Rounds n s ys other u → Same out t other u
idle_same n s t u xs ys out other g calm f h =
    let a = idle_rounds n s xs out t g calm f in
    let b = idle_rounds n s ys other u g calm h in
    (a.0 ∙ sym b.0, a.1 ∙ sym b.1)

rounds_by : (n : ℕ) (s t u : State) (xs ys : List Action) (out other : List Timed) → IsGood s → ((k : ℕ) → n ≡ suc k → OneRounds k) → Rounds n s xs out t → Rounds n s ys other u → RoundsAre n s out t
    → RoundsAre n s other u → Same out t other u
unfolding OneRounds
rounds_by n s t u xs ys out other g later f h (are_rest calm) y = idle_same n s t u xs ys out other g calm.3.may.settled f h
rounds_by n s t u xs ys out other g later f h (are_none z empty is) (are_rest calm) = idle_same n s t u xs ys out other g calm.3.may.settled f h
rounds_by n s t u xs ys out other g later f h (are_none z empty is) (are_none z2 empty2 is2) = (empty ∙ sym empty2, is ∙ sym is2)
rounds_by n s t u xs ys out other g later f h (are_none z empty is) (are_round k m more first last e a b c) = absurd (omega (arith, z, e))
rounds_by n s t u xs ys out other g later f h (are_round k m more first last e a b c) (are_rest calm) = idle_same n s t u xs ys out other g calm.3.may.settled f h
rounds_by n s t u xs ys out other g later f h (are_round k m more first last e a b c) (are_none z empty is) = absurd (omega (arith, z, e))
rounds_by n s t u xs ys out other g later f h (are_round k m more first last e a b c) (are_round k2 m2 more2 first2 last2 e2 a2 b2 c2) =
    let same : k2 ≡ k = omega (arith, e, e2) in
    let now = one_steps s m m2 (half_steps_of (living s)) first first2 g a a2 in
    let moved : Rounds k2 m more2 last2 u = subst (λ z. Rounds k2 z more2 last2 u) (sym now.1) b2 in
    let there : Rounds k m more2 last2 u = subst (λ i. Rounds i m more2 last2 u) same moved in
    let rest = later k e m t u more more2 last last2 (steps_good s m (half_steps_of (living s)) first g a) b there in
    (c ∙ (ap (λ z. z ++ last) now.0 ∙ (ap (λ z. first2 ++ z) rest.0 ∙ sym c2)), rest.1)

one_rounds : (n : ℕ) → OneRounds n
unfolding OneRounds
one_rounds zero = λ s t u xs ys out other g f h. rounds_by 0 s t u xs ys out other g (λ k e. absurd (omega (arith, e))) f h (rounds_are 0 s xs out t f) (rounds_are 0 s ys other u h)
one_rounds (suc n) = λ s t u xs ys out other g f h. rounds_by (suc n) s t u xs ys out other g (λ k e. let same : n ≡ k = omega (arith, e) in subst OneRounds same (one_rounds n)) f h
    (rounds_are (suc n) s xs out t f) (rounds_are (suc n) s ys other u h)

one_rounds_at : (n : ℕ) (s t u : State) (xs ys : List Action) (out other : List Timed) → IsGood s → Rounds n s xs out t → Rounds n s ys other u → Same out t other u
unfolding OneRounds
one_rounds_at n = one_rounds n

-- ---- the frames that a device sends

-- there is one to be sent, or there is none
never_quiet : (s t : State) (d : ℕ) (out : List Timed) → next_told s d ≡ None → Transition s (SendFrame d) out t → ⊥
never_quiet s t d out none x = let wrong : Some (x.found.node, x.found.frame) ≡ None = sym x.may.next ∙ none in cc wrong

one_all : (d : ℕ) (s t u : State) (xs ys : List Action) (out other : List Timed) → IsGood s → SendsAll d s xs out t → SendsAll d s ys other u → Same out t other u
one_all d s t u xs ys out other good (quiet e) (quiet f) = (refl, refl)
one_all d s t u xs ys out other good (quiet e) (sends m more first rest f g) = absurd (never_quiet s f.2 d f.0 e f.3)
one_all d s t u xs ys out other good (sends m more first rest f g) (quiet e) = absurd (never_quiet s f.2 d f.0 e f.3)
one_all d s t u xs ys out other good (sends m more first rest f g) (sends m2 more2 first2 rest2 f2 g2) =
    let now = one_steps s m m2 (SendFrame d ∷ Receive None ∷ []) first first2 good f f2 in
    let later = one_all d m t u more more2 rest rest2 (steps_good s m (SendFrame d ∷ Receive None ∷ []) first good f) g (subst (λ z. SendsAll d z more2 rest2 u) (sym now.1) g2) in
    (ap (λ z. z ++ rest) now.0 ∙ ap (λ z. first2 ++ z) later.0, later.1)

-- actions, and the frames that a device then sends
one_then : (d : ℕ) (s m n t u : State) (done xs ys : List Action) (first first2 rest rest2 : List Timed) → IsGood s → Transitions s done first m → Transitions s done first2 n → SendsAll d m xs rest t
    → SendsAll d n ys rest2 u → Same (first ++ rest) t (first2 ++ rest2) u
one_then d s m n t u done xs ys first first2 rest rest2 good f g h k =
    let now = one_steps s m n done first first2 good f g in
    let later = one_all d m t u xs ys rest rest2 (steps_good s m done first good f) h (subst (λ z. SendsAll d z ys rest2 u) (sym now.1) k) in
    (ap (λ z. z ++ rest) now.0 ∙ ap (λ z. first2 ++ z) later.0, later.1)

-- what follows from a command is the same, if the vendor makes one thing of each byte
same_obeyed : (D : DeskRelations) (only : IsFunction D) (s m n : State) (a b : ℕ) (bytes : List ℕ) (x y : Option Obeyed) (first first2 : List Timed) → IsGood s
    → Transitions s (SendCommand a b bytes ∷ Receive x ∷ []) first m → Transitions s (SendCommand a b bytes ∷ Receive y ∷ []) first2 n
    → IsGiven D (Receive x) → IsGiven D (Receive y) → x ≡ y
same_obeyed D only s m n a b bytes x y first first2 good f g given other =
    let sent = one_step s f.2 g.2 (SendCommand a b bytes) f.0 g.0 good f.3 g.3 in
    one_obeyed D only f.2 f.5.2 g.5.2 x y f.5.0 g.5.0 f.5.3 (subst (λ z. Transition z (Receive y) g.5.0 g.5.2) (sym sent.1) g.5.3) given other

given_second : (D : DeskRelations) (xs more : List Action) (a b : Action) → xs ≡ a ∷ b ∷ more → AreGiven D xs → IsGiven D b
given_second D xs more a b e f = (subst (AreGiven D) e f).1.0

both_ways : (b : Bool) → b ≡ true → b ≡ false → ⊥
both_ways b x y = let clash : true ≡ false = sym x ∙ y in cc clash

-- ---- orders

one_undecided : (D : DeskRelations) (only : IsFunction D) (s : State) (o : Order) (xs ys : List Action) (out other : List Timed) (t u : State) → IsGood s → AreGiven D xs → AreGiven D ys
    → Undecided s o xs out t → Undecided s o ys other u → Same out t other u
one_undecided D only s (order.Settle n) xs ys out other t u g give gave f h = go f.4 h.4
  where
    same : Same f.2 f.1 h.2 h.1
    same = one_rounds_at n s f.1 h.1 f.0 h.0 f.2 h.2 g f.3 h.3

    good : IsGood f.1
    good = steps_good s f.1 f.0 f.2 g (rounds_steps n s f.0 f.2 f.1 f.3)

    go : (IsFalse (is_unsettled f.1) × (out ≡ f.2) × (t ≡ f.1)) ⊎ ((last : List Timed) × Transitions f.1 (Unsettled ∷ []) last t × (out ≡ f.2 ++ last))
        → (IsFalse (is_unsettled h.1) × (other ≡ h.2) × (u ≡ h.1)) ⊎ ((last : List Timed) × Transitions h.1 (Unsettled ∷ []) last u × (other ≡ h.2 ++ last)) → Same out t other u
    go (inl a) (inl b) = (a.1 ∙ (same.0 ∙ sym b.1), a.2 ∙ (same.1 ∙ sym b.2))
    go (inl a) (inr b) = absurd (both_ways (is_unsettled h.1) b.1.3.may (subst (λ z. IsFalse (is_unsettled z)) same.1 a.0))
    go (inr a) (inl b) = absurd (both_ways (is_unsettled h.1) (subst (λ z. IsTrue (is_unsettled z)) same.1 a.1.3.may) b.0)
    go (inr a) (inr b) =
        let last = one_steps f.1 t u (Unsettled ∷ []) a.0 b.0 good a.1 (subst (λ z. Transitions z (Unsettled ∷ []) b.0 u) (sym same.1) b.1) in
        (a.2 ∙ (ap (λ z. z ++ a.0) same.0 ∙ (ap (λ z. h.2 ++ z) last.0 ∙ sym b.2)), last.1)
one_undecided D only s (order.Cycles n) xs ys out other t u g give gave f h = one_cycles D only n s t u xs ys out other g give gave f h
one_undecided D only s (order.Command a b bytes) xs ys out other t u g give gave f h =
    let same : h.0 ≡ f.0 = same_obeyed D only s h.1 f.1 a b bytes h.0 f.0 h.3 f.3 g h.5 f.5 (given_second D ys h.2 (SendCommand a b bytes) (Receive h.0) h.7 gave)
    (given_second D xs f.2 (SendCommand a b bytes) (Receive f.0) f.7 give) in
    let r = one_then b s f.1 h.1 t u (SendCommand a b bytes ∷ Receive f.0 ∷ []) f.2 h.2 f.3 h.3 f.4 h.4 g f.5
    (subst (λ o. Transitions s (SendCommand a b bytes ∷ Receive o ∷ []) h.3 h.1) same h.5) f.6 h.6 in
    (f.8 ∙ (r.0 ∙ sym h.8), r.1)
one_undecided D only s (order.Insert d tape system) xs ys out other t u g give gave f h =
    let r = one_then d s f.0 h.0 t u (InsertTape d tape system ∷ []) f.1 h.1 f.2 h.2 f.3 h.3 g f.4 h.4 f.5 h.5 in
    (f.6 ∙ (r.0 ∙ sym h.6), r.1)
one_undecided D only s (order.Eject d) xs ys out other t u g give gave (inl f) (inl h) =
    let r = one_then d s f.0 h.0 t u (EjectTape d ∷ []) f.1 h.1 f.2 h.2 f.3 h.3 g f.4 h.4 f.5 h.5 in
    (f.6 ∙ (r.0 ∙ sym h.6), r.1)
one_undecided D only s (order.Eject d) xs ys out other t u g give gave (inl f) (inr h) = absurd (both_ways (is_some (s.decks d).unit.tape) f.4.3.may.tape h.0)
one_undecided D only s (order.Eject d) xs ys out other t u g give gave (inr f) (inl h) = absurd (both_ways (is_some (s.decks d).unit.tape) h.4.3.may.tape f.0)
one_undecided D only s (order.Eject d) xs ys out other t u g give gave (inr f) (inr h) = (f.1 ∙ sym h.1, f.2 ∙ sym h.2)
one_undecided D only s _ xs ys out other t u g give gave f h = absurd f

pub one_carried : (D : DeskRelations) (only : IsFunction D) (s : State) (o : Order) (xs ys : List Action) (out other : List Timed) (t u : State) → IsGood s → AreGiven D xs → AreGiven D ys
    → CarriedBy s o xs out t → CarriedBy s o ys other u → Same out t other u
one_carried D only s o xs ys out other t u g give gave = go (actions_of s o)
  where
    go : (decided : Option (List Action)) → CarriedAs decided s o xs out t → CarriedAs decided s o ys other u → Same out t other u
    go None f h = one_undecided D only s o xs ys out other t u g give gave f h
    go (Some decided) f h = one_steps s t u decided out other g f.1 h.1
