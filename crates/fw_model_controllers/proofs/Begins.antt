-- A job that begins, or ends, or comes too late keeps its controller in step.
use Rattle.fw_model_controllers.proofs.Common.{PlugAt, ConnectionKind, ◌≡◌, ℕ, ◌+◌, Bool, true, false, Option, Some, None}
use Rattle.fw_model_controllers.proofs.Common.{is_some, cond, refl, ap, sym, ◌∙◌, arith, Account, Connection, PlugToPlug, BroadcastOut}
use Rattle.fw_model_controllers.proofs.Common.{BroadcastIn, Flow, Directory, Job, Ending, Broken, Stage, Begin}
use Rattle.fw_model_controllers.proofs.Common.{ReadOutput, ReadChannels, SwapChannels, OverlayOutput, ReadInput, ConnectInput, ReadInputToLeave}
use Rattle.fw_model_controllers.proofs.Common.{ReadOutputToLeave, Ended, output_of, input_of, is_listen, restores, pending_of}
use Rattle.fw_model_controllers.proofs.Common.{has_output, has_input, job_outputs, job_inputs, begin_making, begin_leaving, count_of}
use Rattle.fw_model_controllers.proofs.Common.{breaking_job, Holding, Holds, has_manager, Others, reservation, holding, units_at, MayReclaim, IsInStep}
use Rattle.fw_cmp_jobs.specs.declared.job.Ending.TheVariants.{NoManager, Absent}
use Rattle.fw_cmp_jobs.specs.Jobs.{absent_of, begin_managed, own_flow, is_undecided}
use Rattle.fw_model_controllers.specs.Controllers.{StandsAt}
use Rattle.fw_model_controllers.proofs.InputDecisions.{none_at_output, no_output}
use Rattle.fw_model_controllers.proofs.Goes.{holds_same}

-- what a controller has beside its current job
abbrev pub alone : Others → Holding
alone others = record { reserved = None; outputs = others.outputs; inputs = others.inputs }

-- the units of the job's slot are those of its output plug
abbrev pub UnitsAre : Account → Job → Type 0
UnitsAre l j = (p : PlugAt) (u : ℕ) → output_of j.connection ≡ Some p → j.units ≡ Some u → u ≡ units_at (l.settings p).rate j.overhead

-- a stage that has nothing
nothing_held : (l : Account) (c : ℕ) (j : Job) (s : Stage) (others : Others) → Holds l c (alone others) → pending_of s ≡ None → ((kind : ConnectionKind) (q : PlugAt) → 0 ≡ job_outputs j s kind q)
    → ((kind : ConnectionKind) (q : PlugAt) → 0 ≡ job_inputs j s kind q) → Holds l c (holding j s others)
nothing_held l c j s others has e f g = holds_same l c (alone others) (holding j s others) has (ap (reservation (output_of j.connection)) (sym e)) (λ kind q. omega (arith, f kind q))
    (λ kind q. omega (arith, g kind q))

pub ended_step : (l : Account) (c : ℕ) (j : Job) (e : Ending) (b : Bool) (others : Others) → Holds l c (alone others) → UnitsAre l j → IsInStep l c j (Ended e) b others
ended_step l c j e b others has units = record {
  holds = nothing_held l c j (Ended e) others has refl (λ kind q. refl) (λ kind q. refl);
  knows = λ p x. tt;
  knows_flow = λ p x. tt;
  knows_channel = λ q x. tt;
  knows_input = tt;
  fresh = tt;
  plugs = λ y. grind arith;
  units = units;
  reclaims = λ p x runs may. absurd (grind arith);
  addressed = λ p x y. absurd (grind arith);
  found = λ p x y. absurd (grind arith);
  found_input = λ q x y. absurd (grind arith);
  manager = λ x y. absurd (grind arith);
}

pub begin_step : (l : Account) (c : ℕ) (j : Job) (b : Bool) (others : Others) → Holds l c (alone others) → UnitsAre l j → restores j ≡ true → IsInStep l c j Begin b others
begin_step l c j b others has units fresh = record {
  holds = nothing_held l c j Begin others has refl (λ kind q. refl) (λ kind q. refl);
  knows = λ p x. tt;
  knows_flow = λ p x. tt;
  knows_channel = λ q x. tt;
  knows_input = tt;
  fresh = fresh;
  plugs = λ y. grind arith;
  units = units;
  reclaims = λ p x runs may. absurd (grind arith);
  addressed = λ p x y. absurd (grind arith);
  found = λ p x y. absurd (grind arith);
  found_input = λ q x y. absurd (grind arith);
  manager = λ x y. absurd (grind arith);
}

read_output_step : (l : Account) (c : ℕ) (j : Job) (others : Others) → Holds l c (alone others) → UnitsAre l j
    → ((p : PlugAt) → output_of j.connection ≡ Some p → l.reclaiming ≡ true → MayReclaim l p j) → has_manager l.latest ≡ true → IsInStep l c j ReadOutput false others
read_output_step l c j others has units may manager = record {
  holds = nothing_held l c j ReadOutput others has refl (λ kind q. refl) (λ kind q. refl);
  knows = λ p x. tt;
  knows_flow = λ p x. tt;
  knows_channel = λ q x. tt;
  knows_input = tt;
  fresh = tt;
  plugs = λ y. grind arith;
  units = units;
  reclaims = λ p x runs _. may p x runs;
  addressed = λ p x y. absurd (grind arith);
  found = λ p x y. absurd (grind arith);
  found_input = λ q x y. absurd (grind arith);
  manager = λ x y. manager;
}

listens_at : (conn : Connection) → is_listen conn ≡ true → is_some (input_of conn) ≡ true
listens_at (PlugToPlug out into) e = refl
listens_at (BroadcastOut out) e = grind arith
listens_at (BroadcastIn into) e = refl

read_input_step : (l : Account) (c : ℕ) (j : Job) (f : Flow) (others : Others) → Holds l c (alone others) → UnitsAre l j → is_listen j.connection ≡ true → IsInStep l c j (ReadInput f) false others
read_input_step l c j f others has units listens = record {
  holds = nothing_held l c j (ReadInput f) others has refl (none_at_output j.connection true listens) (λ kind q. refl);
  knows = λ p x. tt;
  knows_flow = λ p x. absurd (no_output j.connection p listens x);
  knows_channel = λ q x. tt;
  knows_input = tt;
  fresh = tt;
  plugs = λ y. listens_at j.connection listens;
  units = units;
  reclaims = λ p x runs may. absurd (grind arith);
  addressed = λ p x y. absurd (grind arith);
  found = λ p x y. absurd (grind arith);
  found_input = λ q x y. absurd (grind arith);
  manager = λ x y. absurd (grind (arith, listens));
}

pub begins_making : (l : Account) (c : ℕ) (j : Job) (others : Others) (dir : Directory) → Holds l c (alone others) → UnitsAre l j
    → ((p : PlugAt) → output_of j.connection ≡ Some p → l.reclaiming ≡ true → MayReclaim l p j) → ((n : ℕ) → dir.manager ≡ Some n → has_manager l.latest ≡ true)
    → IsInStep l c j (begin_making dir j) false others
begins_making l c j others dir has units may managed = go (absent_of dir j.connection) (is_listen j.connection) refl dir.manager refl
  where
    go : (o : Option ℕ) (b : Bool) → is_listen j.connection ≡ b → (m : Option ℕ) → dir.manager ≡ m
        → IsInStep l c j (elim o [ Some device ↦ Ended (Absent device) | None ↦ (cond b (ReadInput (own_flow j)) (begin_managed m)) ]) false others
    go (Some device) b e m f = ended_step l c j (Absent device) false others has units
    go None true e m f = read_input_step l c j (own_flow j) others has units e
    go None false e None f = ended_step l c j NoManager false others has units
    go None false e (Some n) f = read_output_step l c j others has units may (managed n f)

-- ---- breaks

-- the connection of the job stands
leaving_held : (l : Account) (c : ℕ) (j : Job) (s : Stage) (h : Holding) (others : Others) → Holds l c h → h.reserved ≡ None → pending_of s ≡ None
    → ((kind : ConnectionKind) (q : PlugAt) → h.outputs kind q ≡ others.outputs kind q + job_outputs j s kind q)
    → ((kind : ConnectionKind) (q : PlugAt) → h.inputs kind q ≡ others.inputs kind q + job_inputs j s kind q) → Holds l c (holding j s others)
leaving_held l c j s h others has none e f g = holds_same l c h (holding j s others) has (none ∙ ap (reservation (output_of j.connection)) (sym e)) f g

input_leaves : (l : Account) (c i : ℕ) (conn : Connection) (f : Flow) (others : Others) → is_some (input_of conn) ≡ true → StandsAt l conn f
    → Holds l c (holding (breaking_job i conn) (ReadInputToLeave f.channel f.units) others) → IsInStep l c (breaking_job i conn) (ReadInputToLeave f.channel f.units) false others
input_leaves l c i conn f others there is has = record {
  holds = has;
  knows = λ p x. tt;
  knows_flow = λ p x. let k = is.output p x in (k.channel, k.units);
  knows_channel = λ q x. tt;
  knows_input = tt;
  fresh = tt;
  plugs = λ y. there;
  units = λ p u x y. absurd (grind arith);
  reclaims = λ p x runs may. absurd (grind arith);
  addressed = λ p x y. absurd (grind arith);
  found = λ p x y. absurd (grind arith);
  found_input = λ q x y. absurd (grind arith);
  manager = λ x y. is.manager x;
}

output_leaves : (l : Account) (c i : ℕ) (conn : Connection) (f : Flow) (others : Others) → StandsAt l conn f
    → Holds l c (holding (breaking_job i conn) (ReadOutputToLeave Broken f.channel f.units) others) → IsInStep l c (breaking_job i conn) (ReadOutputToLeave Broken f.channel f.units) false others
output_leaves l c i conn f others is has = record {
  holds = has;
  knows = λ p x. tt;
  knows_flow = λ p x. let k = is.output p x in (k.channel, k.units);
  knows_channel = λ q x. tt;
  knows_input = tt;
  fresh = tt;
  plugs = λ y. grind arith;
  units = λ p u x y. absurd (grind arith);
  reclaims = λ p x runs may. absurd (grind arith);
  addressed = λ p x y. absurd (grind arith);
  found = λ p x y. absurd (grind arith);
  found_input = λ q x y. absurd (grind arith);
  manager = λ x y. is.manager x;
}

pub begins_leaving : (l : Account) (c i : ℕ) (conn : Connection) (f : Flow) (h : Holding) (others : Others) → StandsAt l conn f → Holds l c h → h.reserved ≡ None
    → ((kind : ConnectionKind) (q : PlugAt) → h.outputs kind q ≡ others.outputs kind q + count_of (has_output conn kind q))
    → ((kind : ConnectionKind) (q : PlugAt) → h.inputs kind q ≡ others.inputs kind q + count_of (has_input conn kind q)) → IsInStep l c (breaking_job i conn) (begin_leaving conn f) false others
begins_leaving l c i (PlugToPlug out into) f h others is has none outs ins =
    input_leaves l c i (PlugToPlug out into) f others refl is (leaving_held l c (breaking_job i (PlugToPlug out into)) (ReadInputToLeave f.channel f.units) h others has none refl outs ins)
begins_leaving l c i (BroadcastOut out) f h others is has none outs ins =
    output_leaves l c i (BroadcastOut out) f others is (leaving_held l c (breaking_job i (BroadcastOut out)) (ReadOutputToLeave Broken f.channel f.units) h others has none refl outs ins)
begins_leaving l c i (BroadcastIn into) f h others is has none outs ins =
    input_leaves l c i (BroadcastIn into) f others refl is (leaving_held l c (breaking_job i (BroadcastIn into)) (ReadInputToLeave f.channel f.units) h others has none refl outs ins)

-- ---- a restoring that comes too late has nothing

has_alone : (l : Account) (c : ℕ) (j : Job) (s : Stage) (b : Bool) (others : Others) → IsInStep l c j s b others → pending_of s ≡ None
    → ((kind : ConnectionKind) (q : PlugAt) → job_outputs j s kind q ≡ 0) → ((kind : ConnectionKind) (q : PlugAt) → job_inputs j s kind q ≡ 0) → Holds l c (alone others)
has_alone l c j s b others i e f g = holds_same l c (holding j s others) (alone others) i.holds (ap (reservation (output_of j.connection)) e) (λ kind q. omega (arith, f kind q))
    (λ kind q. omega (arith, g kind q))

pub undecided_alone : (l : Account) (c : ℕ) (j : Job) (s : Stage) (b : Bool) (others : Others) → IsInStep l c j s b others → is_undecided j s ≡ true → Holds l c (alone others)
undecided_alone l c j Begin b others i e = has_alone l c j Begin b others i refl (λ kind q. refl) (λ kind q. refl)
undecided_alone l c j ReadOutput b others i e = has_alone l c j ReadOutput b others i refl (λ kind q. refl) (λ kind q. refl)
undecided_alone l c j (ReadChannels base w) b others i e = has_alone l c j (ReadChannels base w) b others i refl (λ kind q. refl) (λ kind q. refl)
undecided_alone l c j (SwapChannels ch arg w) b others i e = has_alone l c j (SwapChannels ch arg w) b others i refl (λ kind q. refl) (λ kind q. refl)
undecided_alone l c j (OverlayOutput arg) b others i e = has_alone l c j (OverlayOutput arg) b others i refl (λ kind q. refl) (λ kind q. refl)
undecided_alone l c j (ReadInput f) b others i e = has_alone l c j (ReadInput f) b others i refl (λ kind q. sym (none_at_output j.connection true e kind q)) (λ kind q. refl)
undecided_alone l c j (ConnectInput f arg) b others i e = has_alone l c j (ConnectInput f arg) b others i refl (λ kind q. sym (none_at_output j.connection true e kind q)) (λ kind q. refl)
undecided_alone l c j _ b others i e = absurd (grind arith)
