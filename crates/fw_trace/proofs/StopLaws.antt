-- A trace that stops after a command which was carried out.
use Rattle.fw_trace.proofs.Common.{◌≡◌, refl, sym, ap, subst, ◌∙◌, ℕ, List, [], ◌++◌, Option, Some, None, Err, append_assoc, append-nil, Grows, AppendsPrefix, Reading, DeskRelations, BusView}
use Rattle.fw_trace.proofs.Common.{course_of, RunEnding, Traced, Lack, Memory, Part, AreLines, trace_text, GrowsPrefix, Traces, TellsPrefix, Tracing}
use Rattle.std.proofs.lemmas.List.{append_cancel_left}
use Rattle.fw_outside.proofs.Parts.{then_prefix}
use Rattle.fw_trace.specs.declared.lack.Lack.TheVariants.{Sink}
use Rattle.fw_trace.specs.Passed.{PassesBy}
use Rattle.fw_trace.specs.Traces.{stopped_by}
use Rattle.fw_trace.proofs.EndedLaws.{are_lines}
use Rattle.fw_trace.proofs.PassedLaws.{prefix_of, prefix_grows}

-- as much as it would hold
abbrev pub grown : Option (List ℕ) → List ℕ → Option (List ℕ)
grown None text = None
grown (Some xs) text = Some (xs ++ text)

pub grown_grows : (held : Option (List ℕ)) (text : List ℕ) → Grows held (grown held text) text
grown_grows None text = tt
grown_grows (Some xs) text = refl

-- a prefix of the last text is a prefix of the whole
prefix_from : (held mid now : Option (List ℕ)) (first text whole : List ℕ) → Grows held mid first → Grows held (grown mid text) whole → GrowsPrefix mid now text → AppendsPrefix held now whole
prefix_from None None None first text whole a b c = record { prefix = []; rest = whole; parts = refl; appended = tt }
prefix_from None None (Some zs) first text whole a b c = absurd c
prefix_from None (Some ys) now first text whole a b c = absurd a
prefix_from (Some xs) None now first text whole a b c = absurd a
prefix_from (Some xs) (Some ys) None first text whole a b c = absurd c
prefix_from (Some xs) (Some ys) (Some zs) first text whole a b c =
    let all : first ++ text ≡ whole = append_cancel_left xs (first ++ text) whole (sym (append_assoc xs first text) ∙ ap (λ (l : List ℕ). l ++ text) (sym a) ∙ b) in
    subst (AppendsPrefix (Some xs) (Some zs)) all (then_prefix (Some xs) (Some ys) (Some zs) first text a (prefix_of (Some ys) (Some zs) text c))

-- what was passed on is a prefix, whatever lacked
stop_prefix : (lack : Lack) (held held' : Option (List ℕ)) (faults faults' : ℕ) (text : List ℕ) → PassesBy (Err lack) held held' faults faults' text → GrowsPrefix held held' text
stop_prefix Memory held held' faults faults' text p =
    subst (λ (o : Option (List ℕ)). GrowsPrefix held o text) (sym p.0) (prefix_grows held held text (record { prefix = []; rest = text; parts = refl; appended = nothing held }))
  where
    nothing : (o : Option (List ℕ)) → Grows o o []
    nothing None = tt
    nothing (Some xs) = sym (append-nil xs)
stop_prefix Sink held held' faults faults' text p = p.0

pub stopped_tells : {D : DeskRelations} {left left' held held' : Option (List ℕ)} (lack : Lack) → TellsPrefix D left left' held held' → Traces D left left' held held' (stopped_by lack)
stopped_tells Memory t = t
stopped_tells Sink t = t

-- the parts were told, but for the end of the last text
pub stop_traced : {D : DeskRelations} {left left' held : Option (List ℕ)} {reader : Reading} {bus : BusView} {tracer : Traced} {history : List ℕ} (mid now : Option (List ℕ))
    (first text : List ℕ) (lack : Lack)
    (faults faults' : ℕ) (r : RunEnding) → Tracing D left left' held (grown mid text) reader bus tracer history → Grows held mid first → PassesBy (Err lack) mid now faults faults' text
    → r ≡ stopped_by lack
    → Traces D left left' held now r
stop_traced {D} {left} {left'} {held} {reader = reader} mid now first text lack faults faults' r t g p e =
    subst (λ (q : RunEnding). Traces D left left' held now q) (sym e) (stopped_tells lack (record {
      parts = t.parts;
      course = course_of t.going;
      run = t.run;
      given = t.going.given;
      begun = [];
      begins = tt;
      lines = subst (AreLines left left') (sym (append-nil t.parts)) (are_lines left left' t.parts reader t.lines);
      grew = subst (λ (ps : List Part). AppendsPrefix held now (trace_text ps)) (sym (append-nil t.parts))
          (prefix_from held mid now first text (trace_text t.parts) g t.told (stop_prefix lack mid now faults faults' text p));
    }))
