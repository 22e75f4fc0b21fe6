-- What a command caused, as a sink has told it that stands on what it stood on before.
use Rattle.fw_trace.proofs.Common.{◌≡◌, refl, sym, ap, subst, ◌∙◌, ℕ, List, [], ◌++◌, Option, Some, None, ∥∥₁_elim, header_bytes, LogOpens, Two, Timed, LogState, Reading, DeskRelations, log_bytes}
use Rattle.fw_trace.proofs.Common.{BusView, course_of, RunEnding, Telling, caused_text, Traced, lines_from, telling_following, Base, Tells, TellsBy}
use Rattle.std.proofs.lemmas.List.{append_cancel_left}
use Rattle.std.specs.Coded.{Coded-set, coded_ℕ, coded_list}
use Rattle.fw_script_words.specs.Going.{Going, Carried, Continues, StepsOn}
use Rattle.fw_trace_lines.specs.contracts.tracer.Tracer.{the_row}
use Rattle.fw_trace.specs.Framing.{framed}
use Rattle.fw_trace.proofs.Framings.{framed_grown}
use Rattle.fw_trace.proofs.RunLaws.{only_read, going_opens, going_bytes}

-- what a step did to a sink that tells: it stands on the same, and in memory the log is what it was given
pub record FramedStep {D : DeskRelations} {left mid : Option (List ℕ)} {after : List ℕ} {reader : Reading} {bus : BusView} (g : Going D left mid (Some []) (Some after) reader bus)
    (base base' : Base) (bytes bytes' : List ℕ) (left' : Option (List ℕ)) (reader' : Reading) (bus' : BusView) (result : Option RunEnding) : Type 0 where
  pub same : base' ≡ base
  pub more : List ℕ
  pub grown : bytes' ≡ bytes ++ more
  pub goes : Continues g left' (Some (framed base bytes)) (Some (framed base' bytes')) (Some bytes') reader' bus' result

pub framed_step : {D : DeskRelations} {left mid : Option (List ℕ)} {after : List ℕ} {reader : Reading} {bus : BusView} (g : Going D left mid (Some []) (Some after) reader bus)
    (base base' : Base) (bytes bytes' : List ℕ) (left' : Option (List ℕ)) (reader' : Reading) (bus' : BusView) (result : Option RunEnding)
    → StepsOn g left' (Some (framed base bytes)) (Some (framed base' bytes')) reader' bus' result → bytes ≡ header_bytes Two ++ log_bytes 0 g.log
    → FramedStep g base base' bytes bytes' left' reader' bus' result
framed_step {after = after} g base base' bytes bytes' left' reader' bus' result steps e =
    let (more, grew, there) = steps in
    let grown = framed_grown base base' bytes bytes' more grew in
    let all : after ++ more ≡ bytes' = ap (λ (l : List ℕ). l ++ more) (going_bytes g ∙ sym e) ∙ sym grown.1 in
    record {
      same = grown.0;
      more = more;
      grown = grown.1;
      goes = subst (λ (l : List ℕ). Continues g left' (Some (framed base bytes)) (Some (framed base' bytes')) (Some l) reader' bus' result) all (there (Some (after ++ more)) refl);
    }

-- the entries that the sink has read since the command began are those that the command wrote
module _ {D : DeskRelations} {left mid left' written written' : Option (List ℕ)} {after bytes bytes' : List ℕ} {reader reader' : Reading} {bus bus' : BusView}
    (g : Going D left mid (Some []) (Some after) reader bus) (c : Carried D left mid left' (Some []) (Some bytes') written written' (course_of g) reader reader' bus')
    (origin now : Traced) (r : LogState) (count : ℕ) (given : List ℕ) (e : bytes ≡ header_bytes Two ++ log_bytes 0 g.log) where
  out_is : (x : Tells origin now r count bytes bytes' given) → x.out ≡ c.out
  out_is x =
      let opens : LogOpens g.log Two bytes = subst (λ (l : List ℕ). LogOpens g.log Two l) (sym e) (going_opens g) in
      let before : g.log ≡ x.before = only_read x.before g.log Two bytes x.begun x.began opens in
      let longer : LogOpens c.going.log Two bytes' = subst (λ (l : List ℕ). LogOpens c.going.log Two l) (sym (going_bytes c.going)) (going_opens c.going) in
      let all : c.going.log ≡ x.before ++ x.out = only_read (x.before ++ x.out) c.going.log Two bytes' r x.read longer in
      append_cancel_left x.before x.out c.out (sym all ∙ c.longer ∙ ap (λ (l : List Timed). l ++ c.out) before)

  pub carried_text : ∥ TellsBy None origin now r count bytes bytes' given ∥₁ → given ++ now.text ≡ origin.text ++ caused_text (lines_from origin.telling c.out)
  carried_text t = ∥∥₁_elim t (Coded-set (coded_list coded_ℕ) _ _)
      (λ (x : Tells origin now r count bytes bytes' given). x.text ∙ ap (λ (o : List Timed). origin.text ++ caused_text (lines_from origin.telling o)) (out_is x))

  pub carried_kept : ∥ TellsBy None origin now r count bytes bytes' given ∥₁ → now ≡ record { text = now.text; telling = telling_following origin.telling c.out }
  carried_kept t = ∥∥₁_elim t (Coded-set the_row.coded _ _)
      (λ (x : Tells origin now r count bytes bytes' given). ap (λ (k : Telling). record { text = now.text; telling = k })
      (x.kept ∙ ap (λ (o : List Timed). telling_following origin.telling o) (out_is x)))
