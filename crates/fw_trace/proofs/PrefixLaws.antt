-- What was told of a command that was cut off.
use Rattle.fw_trace.proofs.Common.{◌≡◌, sym, ap, subst, ◌∙◌, ℕ, Bool, List, [], ◌++◌, Option, Some, append_assoc, ∥∥₁_elim, header_bytes, LogOpens, Two, Timed, Reading, DeskRelations, log_bytes}
use Rattle.fw_trace.proofs.Common.{BusView, caused_text, Traced, lines_from, telling_following, GrowsPrefix, WasPassed, ToldPart}
use Rattle.std.proofs.lemmas.List.{append_cancel_left}
use Rattle.fw_log.proofs.HistoryLaws.{log_begins}
use Rattle.fw_script_words.specs.Ending.{PartLogged}
use Rattle.fw_script_words.specs.Going.{Going}
use Rattle.fw_trace.specs.Passed.{grows_prefix-prop}
use Rattle.fw_trace.proofs.PassedLaws.{passed_prefix}
use Rattle.fw_trace.proofs.RunLaws.{only_read, going_opens}
use Rattle.fw_trace.proofs.PieceLaws.{text_append}

longer_text : (given rest first more whole : List ℕ) (before : List ℕ) → given ++ rest ≡ before ++ first → whole ≡ first ++ more → given ++ (rest ++ more) ≡ before ++ whole
longer_text given rest first more whole before e f =
    sym (append_assoc given rest more) ∙ ap (λ (l : List ℕ). l ++ more) e ∙ append_assoc before first more ∙ ap (λ (l : List ℕ). before ++ l) (sym f)

module _ {D : DeskRelations} {left mid left' : Option (List ℕ)} {after bytes bytes' : List ℕ} {reader : Reading} {bus : BusView}
    (g : Going D left mid (Some []) (Some after) reader bus) (p : PartLogged D left left' (Some []) (Some bytes')) (same : p.log ≡ g.log)
    (origin : Traced) (given : List ℕ) (e : bytes ≡ header_bytes Two ++ log_bytes 0 g.log) where
  -- what was given is a prefix of the text of the entries that were written, and perhaps of some more
  part_text : (y : ToldPart origin bytes bytes' given) → (rest : List ℕ) × (given ++ rest ≡ origin.text ++ caused_text (lines_from origin.telling p.out))
  part_text y =
      let all = header_bytes Two ++ log_bytes 0 (p.log ++ p.out) in
      let begins : all ≡ y.prefix ++ (y.more ++ p.grew.rest) =
      p.grew.parts ∙ ap (λ (l : List ℕ). l ++ p.grew.rest) (sym p.grew.appended ∙ y.parts) ∙ append_assoc y.prefix y.more p.grew.rest in
      let following = log_begins (y.before ++ y.out) (p.log ++ p.out) Two y.prefix (y.more ++ p.grew.rest) y.last y.read (subst (λ (l : List ℕ). LogOpens (p.log ++ p.out) Two l) begins p.opens) in
      let opens : LogOpens g.log Two bytes = subst (λ (l : List ℕ). LogOpens g.log Two l) (sym e) (going_opens g) in
      let before : p.log ≡ y.before = same ∙ only_read y.before g.log Two bytes y.begun y.began opens in
      let out : p.out ≡ y.out ++ following.rest = append_cancel_left y.before p.out (y.out ++ following.rest)
      (ap (λ (l : List Timed). l ++ p.out) (sym before) ∙ following.all_is ∙ append_assoc y.before y.out following.rest) in
      let whole : caused_text (lines_from origin.telling p.out) ≡ caused_text (lines_from origin.telling y.out) ++ caused_text (lines_from (telling_following origin.telling y.out) following.rest) =
      ap (λ (o : List Timed). caused_text (lines_from origin.telling o)) out ∙ text_append origin.telling y.out following.rest in (
        y.rest ++ caused_text (lines_from (telling_following origin.telling y.out) following.rest),
        longer_text given y.rest (caused_text (lines_from origin.telling y.out)) (caused_text (lines_from (telling_following origin.telling y.out) following.rest))
            (caused_text (lines_from origin.telling p.out)) origin.text y.text whole,
      )

  pub part_told : (failed : Bool) (held held' : Option (List ℕ)) (faults faults' : ℕ) → WasPassed failed held held' faults faults' given → ∥ ToldPart origin bytes bytes' given ∥₁
      → GrowsPrefix held held' (origin.text ++ caused_text (lines_from origin.telling p.out))
  part_told failed held held' faults faults' w t = ∥∥₁_elim t (grows_prefix-prop held held' (origin.text ++ caused_text (lines_from origin.telling p.out)))
      (λ (y : ToldPart origin bytes bytes' given). let r = part_text y in passed_prefix failed held held' faults faults' given r.0 _ w r.1)
