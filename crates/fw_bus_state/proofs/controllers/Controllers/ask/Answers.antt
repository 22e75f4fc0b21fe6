use Rattle.fw_bus_state.proofs.Common.{◌≡◌, ℕ, Bool, true, false, cond, Option, None, Some, refl, ap, sym, ◌∙◌, IsAtRest, Listening, next}
use Rattle.std.specs.Prelude.{IfNone, IfSome, nat_lt}
use Rattle.fw_cmp.specs.Losses.{after_turn, asked_by, deaf_turn, deaf_until, turn_of}
use Rattle.fw_cmp.specs.Turns.{after_next}
use Rattle.fw_cmp.specs.declared.outcome.Next.{Next}
use Rattle.fw_cmp.specs.declared.outcome.Next.TheVariants.{Send, Deaf, Force}
use Rattle.fw_cmp_jobs.specs.declared.directory.Directory.{Directory}
use Rattle.fw_cmp.proofs.Resting.{rest_idles}
use Rattle.fw_bus_state.proofs.Tables.{table_set}
use Rattle.fw_bus_state.proofs.Touched.{Passes, passes_busy, passes_same, stays}
use Rattle.fw_bus_state.proofs.controllers.Controllers.ask.Goals as goal

abbrev is_send : Next → Bool
is_send (Send to request) = true
is_send _ = false

deaf_unsent : (b : Bool) (until : ℕ) → is_send (cond b (Deaf until) Force) ≡ false
deaf_unsent true until = refl
deaf_unsent false until = refl

-- one that has nothing to do sends nothing
rest_unsent : (now : ℕ) (d : Directory) (x : Listening) → IsAtRest x.state → is_send (turn_of now d x) ≡ false
rest_unsent now d x rest = go x.lost
  where
    go : (b : Bool) → is_send (cond b (deaf_turn now (deaf_until x)) (next now d x.state)) ≡ false
    go true = deaf_unsent (nat_lt now (deaf_until x)) (deaf_until x)
    go false = ap is_send (rest_idles now d x.state rest)

-- a turn loses no response, and finds none
turn_lost : (now : ℕ) (d : Directory) (x : Listening) → (after_turn now d x).lost ≡ x.lost
turn_lost now d x = go x.lost
  where
    go : (b : Bool) → (cond b x (record x { state = after_next now d x.state; asked_at = asked_by now x.asked_at (next now d x.state) })).lost ≡ x.lost
    go true = refl
    go false = refl

-- one that asks has something to do, and one that does not stays as it is
asked_passes : {A : Type 0} (now : ℕ) (d : Directory) (x y : Listening) (sent : A → Next) (r : Option A) → ((a : A) → is_send (sent a) ≡ true) → IfSome r (λ a. turn_of now d x ≡ sent a)
    → IfSome r (λ a. y ≡ after_turn now d x) → IfNone r (y ≡ x) → Passes x y
asked_passes now d x y sent None is sends state none = passes_same x y none
asked_passes now d x y sent (Some a) is sends state none =
    passes_busy x y (λ rest. let clash : true ≡ false = sym (is a) ∙ (ap is_send (sym sends) ∙ rest_unsent now d x rest) in cc)
    (λ heard. ap (λ (z : Listening). z.lost) state ∙ (turn_lost now d x ∙ heard))

-- what follows for one that asks
if_asked : {A : Type 0} (P Q : Type 0) (r : Option A) → (P → Q) → IfSome r (λ a. P) → IfSome r (λ a. Q)
if_asked P Q None follows here = here
if_asked P Q (Some a) follows here = follows here

pub returns-clause-state : goal.returns-clause-state
returns-clause-state c =
    if_asked _ _ c.ask.result
    (λ changed. table_set c.args.self.now c.self.inside.list.items c.self.inside.dead c.args.device c.from.result (after_turn c.args.now c.args.directory.now) c.index_mut.result.now c.ask.new.self
    c.self.view_is c.requires.device c.from.ensures c.index_mut.ensures.value changed) c.ask.ensures.state

pub invariant_of-self : goal.invariant_of-self
invariant_of-self c =
    stays c.self.inside c.args.self.now c.args.device c.from.result c.index_mut.result.now c.ask.new.self c.self.view_is c.requires.device c.from.ensures c.index_mut.ensures.value
    (λ here. asked_passes c.args.now c.args.directory.now c.index_mut.result.now c.ask.new.self (λ a. Send a.0 a.1) c.ask.result (λ a. refl) c.ask.ensures.sends c.ask.ensures.state c.ask.ensures.none)
    c.self.invariant
