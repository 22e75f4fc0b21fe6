-- What is told of a device or a limit is so.
use Rattle.std.proofs.Common.{◌≡◌, inl, inr, ℕ, ◌+◌, ◌<◌, not, ◌&&◌, nat_lt, Bool, true, false, cond, List, length, Option, Some, None, is_some, refl, ap, sym, subst, ◌∙◌, arith}
use Rattle.std.proofs.lemmas.Bool.{false≢true}
use Rattle.std.proofs.lemmas.Bool.Decides.{nat_tests}
use Rattle.std.specs.Prelude.{IfSome, option_and_then, ⊤}
use Rattle.std.specs.Option.{option_map}
use Rattle.fw_terms.specs.declared.device.DeviceKind.{DeviceKind}
use Rattle.fw_terms.specs.declared.device.DeviceKind.TheVariants.{Relay, Deck, Camcorder, Computer}
use Rattle.fw_terms.specs.Devices.{has_link}
use Rattle.fw_script_command.specs.declared.command.Command.{Command}
use Rattle.fw_script_command.specs.declared.command.Command.TheVariants as Commands
use Rattle.fw_devices.specs.Entries.{node_number, row_of}
use Rattle.fw_devices.specs.Network.{kind_at}
use Rattle.fw_log_entry.specs.declared.entry.ResetEntry.{ResetEntry}
use Rattle.fw_log_entry.specs.declared.nodes.NodeRow.{NodeRow}
use Rattle.fw_order.specs.declared.limits.TheConstants.{MOST_WRITTEN_CYCLES}
use Rattle.fw_model_run.specs.Good.{IsGood, IsLatest}
use Rattle.fw_model_run.specs.Named.{IsNamed, IsNot, PassesLimit, controller_of}
use Rattle.fw_model_run.specs.Rules.{HasNoController, IsOff}
use Rattle.fw_model_run.specs.State.{State, is_linked, is_living, is_on, is_relay, linked_number, number_in, with_link}
use Rattle.fw_check.specs.Whys.{limit_most}
use Rattle.fw_check.specs.declared.why.LimitOf.TheVariants.{WrittenCycles, Cycles}
use Rattle.fw_check.specs.declared.why.NoController.TheVariants as NoControllers
use Rattle.fw_check.specs.declared.why.NoNode.TheVariants as NoNodes
use Rattle.fw_check.specs.declared.why.Why.{Why}
use Rattle.fw_check.specs.declared.why.Why.TheVariants as Whys
use Rattle.fw_check_causes.specs.Causes.{dead, name_at, no_controller, no_node, not_controller, of_named, off, off_bus, passed}
use Rattle.fw_check_causes_laws.specs.So.{ControllersAreSo, IsWithoutController, IsWithoutNode, LimitsArePassed, NodesAreSo}

-- ---- of what stands

named_so : (s : State) (name : List ℕ) (d : ℕ) (f : ℕ → Option Why) (P : Why → Type 0) → IsNamed s name d → IfSome (f d) P → IfSome (of_named s name f) P
named_so s name d f P e h = subst (λ (o : Option ℕ). IfSome (option_and_then f o) P) (sym e) h

mapped_so : {A : Type 0} (o : Option A) (f : A → Why) (P : Why → Type 0) → IfSome o (λ x. P (f x)) → IfSome (option_map f o) P
mapped_so None f P h = tt
mapped_so (Some x) f P h = h

-- ---- links

linked_kind : (d n : ℕ) (k : DeviceKind) → has_link k ≡ true → is_some (cond (is_relay (Some (row_of d k))) None (Some n)) ≡ true
linked_kind d n Relay t = let z : ⊥ = cc in absurd z
linked_kind d n Deck t = refl
linked_kind d n Camcorder t = refl
linked_kind d n Computer t = refl

-- a device on the bus whose kind has a link has one
linked_of : (s : State) (d : ℕ) → IsGood s → has_link (kind_at s.declared.kinds d) ≡ true → is_on s d ≡ true → is_linked s d ≡ true
linked_of s d g link on = go s.account.latest g.latest on
  where
    at : (e : ResetEntry) → IsLatest (Some e) s.declared s.account → (n : Option ℕ) → node_number e.nodes d ≡ n → is_some n ≡ true → is_some (with_link e.nodes n) ≡ true
    at e l None q t = t
    at e l (Some n) q t = ap (λ (r : Option NodeRow). is_some (cond (is_relay r) None (Some n))) (l.1.numbers d n q) ∙ linked_kind d n (kind_at s.declared.kinds d) link

    go : (o : Option ResetEntry) → IsLatest o s.declared s.account → is_some (number_in o d) ≡ true → is_some (linked_number o d) ≡ true
    go None l t = t
    go (Some e) l t = at e l (node_number e.nodes d) refl t

-- ---- controllers

died : (linked dead : Bool) → (linked && not dead) ≡ false → linked ≡ true → dead ≡ true
died linked true h t = refl
died true false h t = let z : ⊥ = cc in absurd z
died false false h t = let z : ⊥ = cc in absurd z

controller_so : (s : State) (name : List ℕ) (d : ℕ) → IsGood s → IsNamed s name d → is_living s d ≡ false → IfSome (no_controller s name d) (IsWithoutController s)
controller_so s name d g e h = go (has_link (kind_at s.declared.kinds d)) refl (is_on s d) refl
  where
    off_so : (n : Option (List ℕ)) → name_at s 0 ≡ n → is_on s d ≡ false → IfSome (option_map (λ bus. NoControllers.Off name bus) n) (IsWithoutController s)
    off_so None q o = tt
    off_so (Some bus) q o = (d, e, o, q)

    go : (link : Bool) → has_link (kind_at s.declared.kinds d) ≡ link → (on : Bool) → is_on s d ≡ on
        → IfSome (cond (not link) (Some (NoControllers.Relay name)) (cond on (Some (NoControllers.Died name)) (option_map (λ bus. NoControllers.Off name bus) (name_at s 0)))) (IsWithoutController s)
    go false l on o = (d, e, l)
    go true l true o = let linked = linked_of s d g l o in (d, e, linked, died (is_linked s d) (s.dead d) h linked)
    go true l false o = off_so (name_at s 0) refl o

-- what is told, if it is of a controller
abbrev OfController : State → Why → Type 0
OfController s (Whys.NotController why) = IsWithoutController s why
OfController s _ = ⊤

dead_so : (s : State) (o : Option (List ℕ)) → IsGood s → IsNot s (is_living s) o → IfSome (dead s o) (OfController s)
dead_so s None g h = tt
dead_so s (Some name) g h =
    named_so s name h.0 (λ d. option_map Whys.NotController (no_controller s name d)) (OfController s) h.1
    (mapped_so (no_controller s name h.0) Whys.NotController (OfController s) (controller_so s name h.0 g h.1 h.2))

not_controller_so : (s : State) (c : Command) → IsGood s → HasNoController s c → IfSome (not_controller s c) (OfController s)
not_controller_so s (Commands.Start name) g h = dead_so s (Some name) g (h.0, h.1, ap (λ (b : Bool). b && not (s.dead h.0)) h.2)
not_controller_so s c g h = dead_so s (controller_of c) g h

pub without_controller : (s : State) (c : Command) → IsGood s → ControllersAreSo s c
without_controller s c g why h e = subst (λ (o : Option Why). IfSome o (OfController s)) e (not_controller_so s c g h)

-- ---- nodes

node_so : (s : State) (name : List ℕ) (d : ℕ) → IsNamed s name d → (is_on s d ≡ true → has_link (kind_at s.declared.kinds d) ≡ false) → IfSome (no_node s name d) (IsWithoutNode s)
node_so s name d e h = go (is_on s d) refl
  where
    off_so : (n : Option (List ℕ)) → name_at s 0 ≡ n → is_on s d ≡ false → IfSome (option_map (λ bus. NoNodes.Off name bus) n) (IsWithoutNode s)
    off_so None q o = tt
    off_so (Some bus) q o = (d, e, o, q)

    go : (on : Bool) → is_on s d ≡ on → IfSome (cond on (Some (NoNodes.Relay name)) (option_map (λ bus. NoNodes.Off name bus) (name_at s 0))) (IsWithoutNode s)
    go true o = (d, e, o, h o)
    go false o = off_so (name_at s 0) refl o

-- what is told, if it is of a node
abbrev OfNode : State → Why → Type 0
OfNode s (Whys.OffBus number why) = IsWithoutNode s why
OfNode s _ = ⊤

off_so : (s : State) (number : ℕ) (name : List ℕ) (d : ℕ) → IsNamed s name d → (is_on s d ≡ true → has_link (kind_at s.declared.kinds d) ≡ false) → IfSome (off s number name) (OfNode s)
off_so s number name d e h =
    named_so s name d (λ d. option_map (λ why. Whys.OffBus number why) (no_node s name d)) (OfNode s) e
    (mapped_so (no_node s name d) (λ why. Whys.OffBus number why) (OfNode s) (node_so s name d e h))

gone_so : (s : State) (number : ℕ) (name : List ℕ) → IsNot s (is_on s) (Some name) → IfSome (off s number name) (OfNode s)
gone_so s number name h = off_so s number name h.0 h.1 (λ on. absurd (false≢true (sym h.2 ∙ on)))

relay_so : (s : State) (number : ℕ) (name : List ℕ) → IsGood s → IsNot s (is_linked s) (Some name) → IfSome (off s number name) (OfNode s)
relay_so s number name g h = off_so s number name h.0 h.1 (λ on. by (has_link (kind_at s.declared.kinds h.0)) refl on)
  where
    by : (link : Bool) → has_link (kind_at s.declared.kinds h.0) ≡ link → is_on s h.0 ≡ true → has_link (kind_at s.declared.kinds h.0) ≡ false
    by true l on = absurd (false≢true (sym h.2 ∙ linked_of s h.0 g l on))
    by false l on = l

off_bus_so : (s : State) (c : Command) → IsGood s → IsOff s c → IfSome (off_bus s c) (OfNode s)
off_bus_so s (Commands.Reset name) g h = gone_so s 2 name h
off_bus_so s (Commands.Dub name) g h = gone_so s 2 name h
off_bus_so s (Commands.Show (Some name) offset) g h = relay_so s 2 name g h
off_bus_so s (Commands.Command name other frame) g h = relay_so s 3 other g h
off_bus_so s (Commands.Read name other offset) g h = relay_so s 3 other g h
off_bus_so s (Commands.Swap name other offset argument new) g h = relay_so s 3 other g h
off_bus_so s _ g h = tt

pub without_node : (s : State) (c : Command) → IsGood s → NodesAreSo s c
without_node s c g number why h e = subst (λ (o : Option Why). IfSome o (OfNode s)) e (off_bus_so s c g h)

-- ---- limits

-- what is told, if it is of a limit
abbrev OfLimit : Why → Type 0
OfLimit (Whys.Limit limit before here) = limit_most limit < before + here
OfLimit _ = ⊤

cycles_so : (s : State) (count : ℕ) → IsGood s → PassesLimit s (Commands.Cycles count) → IfSome (passed s (Commands.Cycles count)) OfLimit
cycles_so s count g h = by (nat_lt 0 (length s.declared.names) && nat_lt MOST_WRITTEN_CYCLES (s.written + count)) refl h
  where
    some : (o : Option ResetEntry) → IsLatest o s.declared s.account → is_some o ≡ true → 0 < length s.declared.names
    some None l t = let z : ⊥ = cc in absurd z
    some (Some e) l t = l.0

    by : (t : Bool) → (nat_lt 0 (length s.declared.names) && nat_lt MOST_WRITTEN_CYCLES (s.written + count)) ≡ t → PassesLimit s (Commands.Cycles count)
        → OfLimit (cond t (Whys.Limit WrittenCycles s.written count) (Whys.Limit Cycles s.clock.cycle count))
    by true t h = grind (arith, nat_tests)
    by false t (inl h) = h
    by false t (inr h) = let begun = some s.account.latest g.latest h.0 in let more = h.1 in let z : ⊥ = grind (arith, nat_tests) in absurd z

limit_so : (s : State) (c : Command) → IsGood s → PassesLimit s c → IfSome (passed s c) OfLimit
limit_so s (Commands.Cable a b) g h = omega (arith, h.0)
limit_so s (Commands.Reset name) g h = omega (arith, h)
limit_so s (Commands.Lose name) g h = omega (arith, h)
limit_so s (Commands.Step name count) g h = h
limit_so s (Commands.Contend name count) g h = h
limit_so s (Commands.Settle rounds) g h = h
limit_so s (Commands.Wait cycles) g h = h
limit_so s (Commands.Cycles count) g h = cycles_so s count g h
limit_so s _ g h = tt

pub limit_passed : (s : State) (c : Command) → IsGood s → LimitsArePassed s c
limit_passed s c g limit before here h e = subst (λ (o : Option Why). IfSome o OfLimit) e (limit_so s c g h)
