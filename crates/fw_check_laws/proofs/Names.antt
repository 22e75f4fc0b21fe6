-- What is told of a refused line has its refusal's name.
use Rattle.std.proofs.Common.{◌≡◌, ℕ, List, [], ◌∷◌, ◌++◌, Option, Some, refl, ap, sym, subst, ◌∙◌, append_assoc, codes}
use Rattle.std.specs.Prelude.{Err}
use Rattle.fw_outside.specs.Outside.{Grows}
use Rattle.fw_bus.proofs.Runs.{run_good}
use Rattle.fw_script_command.specs.Keyword.{keyword_in}
use Rattle.fw_script_command.specs.Pieces.{IsFree}
use Rattle.fw_script_command.specs.declared.command.Command.{Command}
use Rattle.fw_script_command.specs.declared.keyword.Keyword.TheVariants.{End}
use Rattle.fw_model_run.specs.Desks.{DeskRelations}
use Rattle.fw_model_run.specs.Good.{IsGood}
use Rattle.fw_model_run.specs.Rules.{Decides}
use Rattle.fw_model_run.specs.State.{State}
use Rattle.fw_order.specs.declared.rule.RuleFault.{RuleFault}
use Rattle.fw_check.specs.BadLines.{bad_line, line_refusal}
use Rattle.fw_check.specs.Forms.{form_line}
use Rattle.fw_check.specs.Refusals.{bad_line_text, form_of_line, long_line_text, no_end_text, rule_text}
use Rattle.fw_check.specs.Shown.{headed, shown, word_at}
use Rattle.fw_check.specs.Slips.{slip_of}
use Rattle.fw_check.specs.Whys.{rule_name, why_text}
use Rattle.fw_check.specs.declared.why.Why.{Why}
use Rattle.fw_check_causes.specs.Causes.{cause}
use Rattle.fw_check_causes_laws.specs.Told.{HasCause, rule_word}
use Rattle.fw_script_words.specs.Checks.{Checks, told_of}
use Rattle.fw_script_words.specs.declared.ending.Refusal.{Refusal}
use Rattle.fw_script_words.specs.declared.ending.Refusal.TheVariants.{BadLine, LineTooLong, NoEnd, Rule}
use Rattle.fw_script_words.specs.declared.ending.RunEnding.TheVariants as RunEndings
use Rattle.fw_check_laws.specs.Named.{CausesAreTold, RefusalsAreNamed, TellsCause, TellsLine, TellsRefused}
use Rattle.fw_check_laws.proofs.Lines.{four_parts, one_line, onto, shown_free}

-- what is told of a line is what is shown of it, and then its name
tells_by : (line : ℕ) (name text what rest why : List ℕ) → IsFree 10 what → text ≡ headed line what ++ rest → rest ≡ name ++ codes ": " ++ why → TellsLine line name text
tells_by line name text what rest why free is named = record {
  shown = what;
  one_line = free;
  why = why;
  is = is ∙ onto (headed line what) rest name (codes ": ") why named;
}

renamed : (n m why : List ℕ) → n ≡ m → n ++ codes ": " ++ why ≡ m ++ codes ": " ++ why
renamed n m why e = ap (λ (t : List ℕ). t ++ codes ": " ++ why) e

-- each command that breaks a rule in a good state has a cause with the rule's name
module _ (has : (s : State) (c : Command) (rule : RuleFault) → IsGood s → Decides s c (Err rule) → HasCause s c rule) (D : DeskRelations) where
  pub causes : CausesAreTold D
  causes left left' held held' rule line (was, grew) =
      let found = has was.1.logged.state was.1.command rule (run_good was.1.logged.run) was.1.decided in
      record {
        state = was.1.logged.state;
        good = run_good was.1.logged.run;
        command = was.1.command;
        decided = was.1.decided;
        why = found.why;
        stands = found.is;
        named = found.named;
        text = was.1.on_line.after.text;
        grew = subst (λ (o : Option Why). Grows held held' (told_of line was.1.on_line.after.text o)) found.is grew;
      }

  of_cause : (held held' : Option (List ℕ)) (rule : RuleFault) (line : ℕ) → TellsCause held held' rule line → TellsRefused held held' (record { line = line; why = Rule rule })
  of_cause held held' rule line t =
      let why = why_text t.text t.why ++ 10 ∷ form_of_line (keyword_in (word_at t.text 1)) in
      record {
        text = rule_text line t.text t.why;
        grew = t.grew;
        tells = tells_by line (rule_word rule) (rule_text line t.text t.why) (shown t.text) (rule_name t.why ++ codes ": " ++ why) why
            (one_line t.text)
            (four_parts (headed line (shown t.text)) (rule_name t.why) (codes ": ") (why_text t.text t.why) (10 ∷ form_of_line (keyword_in (word_at t.text 1))))
            (renamed (rule_name t.why) (rule_word rule) why t.named);
      }

  pub names : RefusalsAreNamed D
  names left left' held held' r = go r.why r.line
    where
      go : (why : Refusal) (line : ℕ) → Checks D left left' held held' (RunEndings.Refused (record { line = line; why = why })) → TellsRefused held held' (record { line = line; why = why })
      go BadLine line (was, grew) =
          let at = was.1.at.after in
          record {
            text = bad_line_text line at.text at.end;
            grew = grew;
            tells = tells_by line (codes "BadLine") (bad_line_text line at.text at.end) (shown at.text) (bad_line at.text at.end)
                (line_refusal at.text (slip_of at.text at.end)) (one_line at.text) refl refl;
          }
      go LineTooLong line (was, grew) =
          let text = was.1.at.after.text in
          record {
            text = long_line_text line text;
            grew = grew;
            tells = tells_by line (codes "LineTooLong") (long_line_text line text) (shown text) (codes "LineTooLong: the line has more than 256 bytes" ++ 10 ∷ [])
                (codes "the line has more than 256 bytes" ++ 10 ∷ []) (one_line text)
                (append_assoc (headed line (shown text)) (codes "LineTooLong: the line has more than 256 bytes") (10 ∷ [])) refl;
          }
      go NoEnd line (was, grew) = record {
        text = no_end_text line;
        grew = grew;
        tells = tells_by line (codes "NoEnd") (no_end_text line) (codes "(the end of the input)") (codes "NoEnd: no line is `end`" ++ 10 ∷ form_line End)
            (codes "no line is `end`" ++ 10 ∷ form_line End) (shown_free (codes "(the end of the input)"))
            (append_assoc (headed line (codes "(the end of the input)")) (codes "NoEnd: no line is `end`") (10 ∷ form_line End)) refl;
      }
      go (Rule rule) line checks = of_cause held held' rule line (causes left left' held held' rule line checks)
