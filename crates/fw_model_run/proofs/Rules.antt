-- A command has one answer.
use Rattle.fw_model_run.proofs.Common.{◌≡◌, ◌⊎◌, inl, inr, ℕ, ◌<◌, ◌≤◌, ◌==◌, cond, refl, ap, sym, ◌∙◌, arith, Ok, cases_lt, Command, Order, State}
use Rattle.std.specs.Prelude.{Err}
use Rattle.std.specs.declared.result.Result.{Result}
use Rattle.fw_order.specs.declared.rule.RuleFault.{RuleFault}
use Rattle.fw_order.specs.declared.rule.RuleFault.TheVariants.{UnknownName, NameTaken, TooMany, NoPort, PortUsed, Loop, NotController, Guarded, NoRegister, Limit}
use Rattle.fw_order.specs.declared.rule.RuleFault.TheVariants.{TableFull, Busy, NoSuchConnection, NotOwnPlug, OffBus, NoDeck, NothingStands, TooLate, NotCapable, NotCandidate}
use Rattle.fw_model_run.specs.Rules.{rank, Decides}
use Rattle.fw_model_run.proofs.OneLog.{one_order}

-- the rule of a rank
abbrev ranked : ℕ → RuleFault
ranked n =
    cond (n == 1) UnknownName (cond (n == 2) NameTaken (cond (n == 3) TooMany (cond (n == 4) NoDeck (cond (n == 5) NoPort (cond (n == 6) PortUsed (cond (n == 7) Loop
    (cond (n == 8) NotController (cond (n == 9) NothingStands (cond (n == 10) OffBus
    (cond (n == 11) NotOwnPlug (cond (n == 12) NoSuchConnection (cond (n == 13) TableFull
    (cond (n == 14) Busy (cond (n == 15) NotCapable (cond (n == 16) NotCandidate (cond (n == 17) Guarded (cond (n == 18) NoRegister (cond (n == 19) Limit TooLate))))))))))))))))))

ranked_back : (f : RuleFault) → ranked (rank f) ≡ f
ranked_back UnknownName = refl
ranked_back NameTaken = refl
ranked_back TooMany = refl
ranked_back NoDeck = refl
ranked_back NoPort = refl
ranked_back PortUsed = refl
ranked_back Loop = refl
ranked_back NotController = refl
ranked_back NothingStands = refl
ranked_back OffBus = refl
ranked_back NotOwnPlug = refl
ranked_back NoSuchConnection = refl
ranked_back TableFull = refl
ranked_back Busy = refl
ranked_back NotCapable = refl
ranked_back NotCandidate = refl
ranked_back Guarded = refl
ranked_back NoRegister = refl
ranked_back Limit = refl
ranked_back TooLate = refl

same_rank : (f g : RuleFault) → rank f ≡ rank g → f ≡ g
same_rank f g e = sym (ranked_back f) ∙ (ap ranked e ∙ ranked_back g)

pub one_answer : (s : State) (c : Command) (r q : Result Order RuleFault) → Decides s c r → Decides s c q → r ≡ q
one_answer s c (Ok o) (Ok p) f g = ap (λ x. Ok x) (one_order s c o p f.0 g.0)
one_answer s c (Ok o) (Err k) f g = absurd (f.1 k g.0)
one_answer s c (Err k) (Ok o) f g = absurd (g.1 k f.0)
one_answer s c (Err k) (Err l) f g = ap (λ x. Err x) (go (cases_lt (rank k) (rank l)) (cases_lt (rank l) (rank k)))
  where
    go : (rank k < rank l) ⊎ (rank l ≤ rank k) → (rank l < rank k) ⊎ (rank k ≤ rank l) → k ≡ l
    go (inl lt) either = absurd (g.1 k lt f.0)
    go (inr le) (inl lt) = absurd (f.1 l lt g.0)
    go (inr le) (inr ge) = same_rank k l (omega (arith, le, ge))
