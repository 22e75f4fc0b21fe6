-- A trace at its beginning: the log's header was read, and nothing is told for it.
use Rattle.fw_trace.proofs.Common.{◌≡◌, refl, sym, ap, subst, ◌∙◌, ℕ, Bool, List, [], ◌∷◌, ◌++◌, Option, Some, None, inl, append_assoc, arith, append-nil, ∥∥₁_elim, Grows, AppendsPrefix, WriteFault}
use Rattle.fw_trace.proofs.Common.{ReadFault, TooLong, NoMemory, header_bytes, LogOpens, Two, Timed, HasRead, LogState, Reading, Commands, DeskRelations, BusView, RunEnding, Refused, Stopped}
use Rattle.fw_trace.proofs.Common.{caused_text, untold, Traced, lines_from, telling_following, Lack, Memory, PartsRun, GrowsPrefix, WasPassed, Tells, TellsBy, ToldPart, fails_by, Traces, TellsPrefix}
use Rattle.fw_trace.proofs.Common.{HasLines, Tracing}
use Rattle.std.specs.Prelude.{IsFalse}
use Rattle.std.specs.Coded.{Coded-set, coded_ℕ, coded_list}
use Rattle.fw_outside.proofs.Parts.{Grows-nothing, Takes-nothing}
use Rattle.fw_log.proofs.HistoryLaws.{log_begins}
use Rattle.fw_script.specs.Reading.{unread}
use Rattle.fw_script.specs.declared.stage.ReaderStage.TheVariants.{Done as AtEnd}
use Rattle.fw_model_run.specs.Runs.{begun}
use Rattle.fw_model_run.specs.State.{first_state}
use Rattle.fw_model_run.proofs.Logs.{run_opens}
use Rattle.fw_bus.specs.Buses.{StandsFor}
use Rattle.fw_script_words.specs.Scripts.{IsValid, IsNoRefusal}
use Rattle.fw_script_words.specs.declared.ending.RunEnding.TheVariants.{Done}
use Rattle.fw_script_words.proofs.Completions.{run_completes}
use Rattle.fw_script_words.proofs.Goings.{going_first}
use Rattle.fw_trace_lines.specs.contracts.tracer.Tracer.{the_row}
use Rattle.fw_trace.specs.Parts.{first_course}
use Rattle.fw_trace.specs.Traces.{stopped_by, fault_by}
use Rattle.fw_trace.specs.Tracing.{IsBeginning}
use Rattle.fw_trace.proofs.OnLaws.{passed_whole}
use Rattle.fw_trace.proofs.PassedLaws.{prefix_of, passed_prefix}
use Rattle.fw_trace.proofs.StopLaws.{stopped_tells}

-- ---- what is read of the header

-- the header alone is a log without entries
header_opens : LogOpens [] Two (header_bytes Two)
header_opens = subst (λ (l : List ℕ). LogOpens [] Two l) (append-nil (header_bytes Two)) (run_opens [] [] [] first_state begun tt)

both_nothing : {A : Type 0} (xs ys : List A) → xs ++ ys ≡ [] → (xs ≡ []) × (ys ≡ [])
both_nothing [] ys e = (refl, e)
both_nothing (x ∷ xs) ys e = absurd cc

-- no entry ends within it
none_within : (entries : List Timed) (bytes rest : List ℕ) (r : LogState) → HasRead entries bytes r → header_bytes Two ≡ bytes ++ rest → entries ≡ []
none_within entries bytes rest r h e =
    let b = log_begins entries [] Two bytes rest r h (subst (λ (l : List ℕ). LogOpens [] Two l) e header_opens) in
    (both_nothing entries b.rest (sym b.all_is)).0

module _ (origin now : Traced) (r : LogState) (count : ℕ) (bytes rest given : List ℕ) (new : origin ≡ record { text = []; telling = untold }) (e : header_bytes Two ≡ bytes ++ rest) where
  read_text : (out : List Timed) → out ≡ [] → origin.text ++ caused_text (lines_from origin.telling out) ≡ []
  read_text out none = λ i. (new i).text ++ caused_text (lines_from (new i).telling (none i))

  tells_nothing : (x : Tells origin now r count [] bytes given) → (given ≡ []) × (now ≡ record { text = []; telling = untold })
  tells_nothing x =
      let out = (both_nothing x.before x.out (none_within (x.before ++ x.out) bytes rest r x.read e)).1 in
      let none = both_nothing given now.text (x.text ∙ read_text x.out out) in
      let kept : now.telling ≡ untold = x.kept ∙ (λ i. telling_following (new i).telling (out i)) in
      (none.0, λ i. record { text = none.1 i; telling = kept i })

  told_nothing : (y : ToldPart origin [] bytes given) → given ≡ []
  told_nothing y =
      let within : header_bytes Two ≡ y.prefix ++ (y.more ++ rest) = e ∙ ap (λ (l : List ℕ). l ++ rest) y.parts ∙ append_assoc y.prefix y.more rest in
      let out = (both_nothing y.before y.out (none_within (y.before ++ y.out) y.prefix (y.more ++ rest) y.last y.read within)).1 in
      (both_nothing given y.rest (y.text ∙ read_text y.out out)).0

  given_nothing : (lack : Option Lack) → ∥ TellsBy lack origin now r count [] bytes given ∥₁ → given ≡ []
  given_nothing None t = ∥∥₁_elim t (Coded-set (coded_list coded_ℕ) given []) (λ (x : Tells origin now r count [] bytes given). (tells_nothing x).0)
  given_nothing (Some lack) t = ∥∥₁_elim t (Coded-set (coded_list coded_ℕ) given []) (λ (y : ToldPart origin [] bytes given). told_nothing y)

  now_untold : ∥ TellsBy None origin now r count [] bytes given ∥₁ → now ≡ record { text = []; telling = untold }
  now_untold t = ∥∥₁_elim t (Coded-set the_row.coded now (record { text = []; telling = untold })) (λ (x : Tells origin now r count [] bytes given). (tells_nothing x).1)

-- the header was read
pub header_begins : (origin now : Traced) (r : LogState) (count : ℕ) (earlier bytes given : List ℕ) (lack : Option Lack) (failed : Bool) (held held' start : Option (List ℕ)) (faults faults' : ℕ)
    → origin ≡ record { text = []; telling = untold } → earlier ≡ [] → bytes ≡ header_bytes Two → lack ≡ None → failed ≡ fails_by lack → start ≡ held
    → WasPassed failed start held' faults faults' given
    → ∥ TellsBy lack origin now r count earlier bytes given ∥₁ → IsBeginning held held' lack now bytes None
header_begins origin now r count earlier bytes given lack failed held held' start faults faults' new old e none fails same passed tells = (
  subst (λ (o : Option (List ℕ)). Grows o held' []) same (subst (λ (l : List ℕ). Grows start held' l) nothing (passed_whole lack failed start held' faults faults' given none fails passed).0),
  none,
  now_untold origin now r count bytes [] given new all (subst (λ (o : Option Lack). ∥ TellsBy o origin now r count [] bytes given ∥₁) none tells'),
  e,
)
  where
    all : header_bytes Two ≡ bytes ++ []
    all = sym (append-nil bytes ∙ e)

    tells' : ∥ TellsBy lack origin now r count [] bytes given ∥₁
    tells' = subst (λ (l : List ℕ). ∥ TellsBy lack origin now r count l bytes given ∥₁) old tells

    nothing : given ≡ []
    nothing = given_nothing origin now r count bytes [] given new all lack tells'

why_by : (lack : Option Lack) → (why : Lack) × (fault_by lack ≡ stopped_by why)
why_by None = (Memory, refl)
why_by (Some lack) = (lack, refl)

-- a prefix of it was read at most
pub header_stops : (origin now : Traced) (r : LogState) (count : ℕ) (earlier bytes rest given : List ℕ) (lack : Option Lack) (failed : Bool) (held held' start : Option (List ℕ))
    (faults faults' : ℕ) (ending : RunEnding)
    → origin ≡ record { text = []; telling = untold } → earlier ≡ [] → header_bytes Two ≡ bytes ++ rest → start ≡ held → WasPassed failed start held' faults faults' given
    → ∥ TellsBy lack origin now r count earlier bytes given ∥₁ → ending ≡ fault_by lack → IsBeginning held held' lack now bytes (Some ending)
header_stops origin now r count earlier bytes rest given lack failed held held' start faults faults' ending new old e same passed tells end =
    let tells' = subst (λ (l : List ℕ). ∥ TellsBy lack origin now r count l bytes given ∥₁) old tells in
    let nothing : given ≡ [] = given_nothing origin now r count bytes rest given new e lack tells' in
    let why = why_by lack in (
      subst (λ (o : Option (List ℕ)). GrowsPrefix o held' []) same (passed_prefix failed start held' faults faults' given [] [] passed (append-nil given ∙ nothing)),
      why.0,
      end ∙ why.1,
    )

-- ---- a trace begins

pub first_tracing : {D : DeskRelations} (left held held' : Option (List ℕ)) (lack : Option Lack) (reader : Reading) (bus : BusView) (tracer : Traced) (history : List ℕ)
    → reader ≡ unread → StandsFor bus.machine first_state → IsFalse bus.spent → IsBeginning held held' lack tracer history None → Tracing D left left held held' reader bus tracer history
unfolding going_first
first_tracing left held held' lack reader bus tracer history new stands fresh b = record {
  after = header_bytes Two;
  going = going_first left (Some []) (Some (header_bytes Two)) reader bus new stands fresh refl;
  parts = [];
  run = PartsRun.first;
  lines = subst (λ (p : Reading). HasLines left left [] p) (sym new) (record { taken = []; takes = Takes-nothing left; split = inl refl; free = tt; number = refl; few = omega arith; count = refl });
  over = λ d. let wrong : Commands ≡ AtEnd = sym (ap (λ (p : Reading). p.stage) new) ∙ d in absurd cc;
  read = b.3 ∙ sym (append-nil (header_bytes Two));
  keeps = b.2;
  told = b.0;
}

-- nothing is told
prefix_nothing : {D : DeskRelations} (left held held' : Option (List ℕ)) → AppendsPrefix held held' [] → TellsPrefix D left left held held'
prefix_nothing left held held' grew = record {
  parts = [];
  course = first_course;
  run = PartsRun.first;
  given = tt;
  begun = [];
  begins = tt;
  lines = record { taken = []; takes = Takes-nothing left; rest = []; split = inl refl; free = tt };
  grew = grew;
}

pub first_stops : (D : DeskRelations) (left held held' : Option (List ℕ)) (lack : Option Lack) (tracer : Traced) (history : List ℕ) (ending : RunEnding)
    → IsBeginning held held' lack tracer history (Some ending) → Traces D left left held held' ending
first_stops D left held held' lack tracer history ending b =
    subst (λ (e : RunEnding). Traces D left left held held' e) (sym b.2) (stopped_tells b.1 (prefix_nothing left held held' (prefix_of held held' [] b.0)))

-- there is no room for the first of it
pub nothing_traced : (D : DeskRelations) (left held : Option (List ℕ)) → Traces D left left held held (Stopped NoMemory)
nothing_traced D left held = prefix_nothing left held held (record { prefix = []; rest = []; parts = refl; appended = Grows-nothing held })

-- no line of a valid script is refused
pub trace_completes : (D : DeskRelations) (script : List ℕ) (left left' held held' : Option (List ℕ)) (e : RunEnding) → Traces D left left' held held' e → left ≡ Some script → IsValid script
    → IsNoRefusal e
trace_completes D script left left' held held' Done t told v = tt
trace_completes D script left left' held held' (Refused r) t told v = run_completes D script left left' (Some []) (Some t.written) (Refused r) t.runs told v
trace_completes D script left left' held held' (Stopped ReadFault) t told v = tt
trace_completes D script left left' held held' (Stopped WriteFault) t told v = tt
trace_completes D script left left' held held' (Stopped TooLong) t told v = run_completes D script left left' (Some []) (Some t.written) (Stopped TooLong) t.runs told v
trace_completes D script left left' held held' (Stopped NoMemory) t told v = tt
