-- The first rule that a command breaks: of each command, whose devices are known, which rules can be broken at all.
use Rattle.std.proofs.Common.{◌≡◌, ℕ, ◌<◌, ◌≤◌, List, [], ◌∷◌, Bool, ◌||◌, ◌+◌, ◌*◌, length, not, Some, is_some, Ok, Err, IsTrue, refl, ap, sym, subst, ◌∙◌, arith}
use Rattle.std.specs.Prelude.{⊤}
use Rattle.std.specs.List.{list_any}
use Rattle.std.proofs.lemmas.Bool.{false≢true, true≢false}
use Rattle.std.proofs.lemmas.Option.{same_Some}
use Rattle.fw_tree.specs.declared.facts.End.{End}
use Rattle.fw_tree.specs.declared.TreeFault.{TreeFault}
use Rattle.fw_tree.specs.declared.TreeFault.TheVariants as Tree
use Rattle.fw_tree.specs.Topology.{Topology, IsFault}
use Rattle.fw_script_command.specs.declared.command.Command.TheVariants as Commands
use Rattle.fw_order.specs.declared.limits.TheConstants.{MOST_HALF_STEPS, MOST_RESETS}
use Rattle.fw_order.specs.declared.order.Order.TheVariants as Orders
use Rattle.fw_order.specs.declared.rule.RuleFault.{RuleFault}
use Rattle.fw_order.specs.declared.rule.RuleFault.TheVariants.{UnknownName, TooMany, NoPort, PortUsed, Loop, Limit, TableFull, Busy, NoSuchConnection, NotOwnPlug, TooLate}
use Rattle.fw_model_run.specs.State.{State, living}
use Rattle.fw_model_run.specs.Rules.{Breaks, Decides, rank}
use Rattle.fw_model_run.specs.Named.{Ends, IsEnd, IsNamed, IsNot, is_declared, is_joining}

-- ---- names

pub one_name : (s : State) (name : List ℕ) (d e : ℕ) → IsNamed s name d → IsNamed s name e → d ≡ e
one_name s name d e f g = same_Some d e (sym f ∙ g)

-- the device with the name is so
pub is_so : (s : State) (test : ℕ → Bool) (name : List ℕ) (d : ℕ) → IsNamed s name d → IsTrue (test d) → IsNot s test (Some name) → ⊥
is_so s test name d named so h = true≢false (sym so ∙ ap test (one_name s name d h.0 named h.1) ∙ h.2)

-- each of these names is of a device
abbrev pub AreKnown : State → List (List ℕ) → Type 0
AreKnown s [] = ⊤
AreKnown s (name ∷ names) = ((d : ℕ) × IsNamed s name d) × AreKnown s names

pub all_known : (s : State) (names : List (List ℕ)) → AreKnown s names → IsTrue (list_any (λ name. not (is_declared s name)) names) → ⊥
all_known s [] known h = false≢true h
all_known s (name ∷ names) known h = all_known s names known.1 (sym (ap (λ o. not (is_some o) || list_any (λ name. not (is_declared s name)) names) known.0.1) ∙ h)

-- a rule of a lower rank is another one
pub is_another : (f g k : RuleFault) → rank g < rank f → rank f ≤ rank k → g ≡ k → ⊥
is_another f g k lt le e = let same : rank g ≡ rank k = ap rank e in omega arith

-- ---- a channel that is withheld

withhold_breaks : (s : State) (g : RuleFault) → (g ≡ TooLate → 0 < length s.declared.names → ⊥) → Breaks s Commands.Withhold g → ⊥
withhold_breaks s UnknownName first h = all_known s [] tt h
withhold_breaks s TooLate first h = first refl h
withhold_breaks s NotOwnPlug first h = h.2
withhold_breaks s NoSuchConnection first h = h.2
withhold_breaks s TableFull first h = h.2
withhold_breaks s Busy first h = h.2
withhold_breaks s g first h = h

pub withhold_late : (s : State) → 0 < length s.declared.names → Decides s Commands.Withhold (Err TooLate)
withhold_late s late = (late, λ g lt. withhold_breaks s g (λ same. absurd (is_another TooLate g TooLate lt (omega arith) same)))

pub withhold_ordered : (s : State) → s.declared.names ≡ [] → Decides s Commands.Withhold (Ok Orders.Withhold)
withhold_ordered s none = (refl, λ g. withhold_breaks s g (λ same some. omega (arith, ap (λ (xs : List (List ℕ)). length xs) none, some)))

-- ---- cables

one_end : (s : State) (a : List ℕ × ℕ) (x y : End) → IsEnd s a x → IsEnd s a y → x ≡ y
one_end s a x y f g =
    let device = one_name s a.0 x.device y.device f.0 g.0 in
    let port = f.1 ∙ sym g.1 in
    λ i. record { device = device i; port = port i }

of_ends : (s : State) (a b : List ℕ × ℕ) (x y : End) (P : End → End → Type 0) → IsEnd s a x → IsEnd s b y → Ends s (Commands.Cable a b) P → P x y
of_ends s a b x y P p q h =
    let first = one_end s a h.0 x h.2 p in
    let second = one_end s b h.1 y h.3 q in
    subst (λ e. P e y) first (subst (λ e. P h.0 e) second h.4)

-- the rule of a fault of the cabling
abbrev pub tree_rule : TreeFault → RuleFault
tree_rule Tree.TooMany = TooMany
tree_rule Tree.NoPort = NoPort
tree_rule Tree.PortUsed = PortUsed
tree_rule Tree.Loop = Loop

tree_rule_low : (f : TreeFault) → rank (tree_rule f) ≤ 7
tree_rule_low Tree.TooMany = omega arith
tree_rule_low Tree.NoPort = omega arith
tree_rule_low Tree.PortUsed = omega arith
tree_rule_low Tree.Loop = omega arith

one_fault : (p : Topology) (x y : End) (f g : TreeFault) → IsFault p x y f → IsFault p x y g → f ≡ g
one_fault p x y Tree.TooMany g h k = absurd h
one_fault p x y f Tree.TooMany h k = absurd k
one_fault p x y Tree.NoPort Tree.NoPort h k = refl
one_fault p x y Tree.NoPort Tree.PortUsed h k = absurd (false≢true (sym h ∙ k.0))
one_fault p x y Tree.NoPort Tree.Loop h k = absurd (false≢true (sym h ∙ k.0))
one_fault p x y Tree.PortUsed Tree.NoPort h k = absurd (false≢true (sym k ∙ h.0))
one_fault p x y Tree.PortUsed Tree.PortUsed h k = refl
one_fault p x y Tree.PortUsed Tree.Loop h k = absurd (true≢false (sym h.1 ∙ k.1))
one_fault p x y Tree.Loop Tree.NoPort h k = absurd (false≢true (sym k ∙ h.0))
one_fault p x y Tree.Loop Tree.PortUsed h k = absurd (false≢true (sym h.1 ∙ k.1))
one_fault p x y Tree.Loop Tree.Loop h k = refl

-- a cable breaks a rule of the cabling, or the limit of bus resets
cable_breaks : (s : State) (a b : List ℕ × ℕ) (x y : End) → IsEnd s a x → IsEnd s b y → (g : RuleFault) → ((f : TreeFault) → g ≡ tree_rule f → IsFault s.declared.topology x y f → ⊥)
    → (g ≡ Limit → MOST_RESETS ≤ s.resets → IsTrue (is_joining s x y) → ⊥) → Breaks s (Commands.Cable a b) g → ⊥
cable_breaks s a b x y p q UnknownName fits few h = all_known s (a.0 ∷ b.0 ∷ []) ((x.device, p.0), ((y.device, q.0), tt)) h
cable_breaks s a b x y p q NoPort fits few h = fits Tree.NoPort refl (of_ends s a b x y (λ x y. IsFault s.declared.topology x y Tree.NoPort) p q h)
cable_breaks s a b x y p q PortUsed fits few h = fits Tree.PortUsed refl (of_ends s a b x y (λ x y. IsFault s.declared.topology x y Tree.PortUsed) p q h)
cable_breaks s a b x y p q Loop fits few h = fits Tree.Loop refl (of_ends s a b x y (λ x y. IsFault s.declared.topology x y Tree.Loop) p q h)
cable_breaks s a b x y p q Limit fits few h = few refl h.0 (of_ends s a b x y (λ x y. IsTrue (is_joining s x y)) p q h.1)
cable_breaks s a b x y p q NotOwnPlug fits few h = h.2
cable_breaks s a b x y p q NoSuchConnection fits few h = h.2
cable_breaks s a b x y p q TableFull fits few h = h.2
cable_breaks s a b x y p q Busy fits few h = h.2
cable_breaks s a b x y p q g fits few h = h

cable_fault : (s : State) (a b : List ℕ × ℕ) (x y : End) → IsEnd s a x → IsEnd s b y → (f : TreeFault) → IsFault s.declared.topology x y f → Breaks s (Commands.Cable a b) (tree_rule f)
cable_fault s a b x y p q Tree.TooMany h = h
cable_fault s a b x y p q Tree.NoPort h = (x, y, p, q, h)
cable_fault s a b x y p q Tree.PortUsed h = (x, y, p, q, h)
cable_fault s a b x y p q Tree.Loop h = (x, y, p, q, h)

pub cable_refused : (s : State) (a b : List ℕ × ℕ) (x y : End) → IsEnd s a x → IsEnd s b y → (f : TreeFault) → IsFault s.declared.topology x y f → Decides s (Commands.Cable a b) (Err (tree_rule f))
cable_refused s a b x y p q f h = (cable_fault s a b x y p q f h, λ g lt. cable_breaks s a b x y p q g (other g lt) (limit g lt))
  where
    other : (g : RuleFault) → rank g < rank (tree_rule f) → (k : TreeFault) → g ≡ tree_rule k → IsFault s.declared.topology x y k → ⊥
    other g lt k e is = let same : rank (tree_rule f) ≡ rank (tree_rule k) = ap (λ f. rank (tree_rule f)) (one_fault s.declared.topology x y f k h is) in
        is_another (tree_rule f) g (tree_rule k) lt (omega arith) e

    limit : (g : RuleFault) → rank g < rank (tree_rule f) → g ≡ Limit → MOST_RESETS ≤ s.resets → IsTrue (is_joining s x y) → ⊥
    limit g lt e most joins = let low = tree_rule_low f in is_another (tree_rule f) g Limit lt (omega arith) e

pub cable_at_limit : (s : State) (a b : List ℕ × ℕ) (x y : End) → IsEnd s a x → IsEnd s b y → ((f : TreeFault) → IsFault s.declared.topology x y f → ⊥)
    → MOST_RESETS ≤ s.resets → IsTrue (is_joining s x y) → Decides s (Commands.Cable a b) (Err Limit)
cable_at_limit s a b x y p q fits most joins = ((most, (x, y, p, q, joins)), λ g lt. cable_breaks s a b x y p q g (λ f e. fits f) (λ e most joins. is_another Limit g Limit lt (omega arith) e))

pub cable_ordered : (s : State) (a b : List ℕ × ℕ) (x y : End) → IsEnd s a x → IsEnd s b y → ((f : TreeFault) → IsFault s.declared.topology x y f → ⊥)
    → (MOST_RESETS ≤ s.resets → IsTrue (is_joining s x y) → ⊥) → Decides s (Commands.Cable a b) (Ok (Orders.Cable x y))
cable_ordered s a b x y p q fits few = ((x, y, p, q, refl), λ g. cable_breaks s a b x y p q g (λ f e. fits f) (λ e. few))

-- ---- rounds

-- rounds break no rule but the limit of half steps
pub settle_breaks : (s : State) (rounds : ℕ) (g : RuleFault) → (g ≡ Limit → MOST_HALF_STEPS < s.half_steps + rounds * length (living s) → ⊥) → Breaks s (Commands.Settle rounds) g → ⊥
settle_breaks s rounds UnknownName few h = false≢true h
settle_breaks s rounds NotOwnPlug few h = h.2
settle_breaks s rounds NoSuchConnection few h = h.2
settle_breaks s rounds TableFull few h = h.2
settle_breaks s rounds Busy few h = h.2
settle_breaks s rounds Limit few h = few refl h
settle_breaks s rounds g few h = h

pub settle_at_limit : (s : State) (rounds : ℕ) → MOST_HALF_STEPS < s.half_steps + rounds * length (living s) → Decides s (Commands.Settle rounds) (Err Limit)
settle_at_limit s rounds past = (past, λ g lt. settle_breaks s rounds g (λ e. absurd (is_another Limit g Limit lt (omega arith) e)))
