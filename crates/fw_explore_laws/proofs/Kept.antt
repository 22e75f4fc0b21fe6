-- The lines after an interleaving: those that were carried out, and what is told of the others.
use Rattle.fw_explore_laws.proofs.Common.{ℕ, ◌≡◌, List, [], ◌∷◌, ◌++◌, true, codes, refl, sym, subst, append_assoc, append-nil, Timed, Command, DeskRelations, State}
use Rattle.std.proofs.Common.{map}
use Rattle.fw_order.specs.declared.rule.RuleFault.{RuleFault}
use Rattle.fw_order.specs.declared.rule.RuleFault.TheVariants as Rules
use Rattle.fw_model_run.specs.Desks.{IsFunction}
use Rattle.fw_explore_movers.specs.declared.mover.Line.{Line}
use Rattle.fw_explore_told.specs.Sayings.{lines_text}
use Rattle.fw_explore_meaning.specs.Moves.{Subsequent}
use Rattle.fw_explore_meaning.specs.Names.{rule_name}
use Rattle.fw_explore_meaning.specs.Endings.{Finishes, done, carried, refusal_of, refuses}
use Rattle.fw_explore_meaning.proofs.AfterLaws.{following_one}
use Rattle.fw_explore_laws.proofs.Lines.{AreLines, AreShort, both_short, is_one_line, no_line, none_short}
use Rattle.fw_explore_laws.proofs.Forms.{form_one}
use Rattle.fw_explore_laws.proofs.Words.{one_more}
use Rattle.fw_explore_laws.proofs.Gathered.{one_line}
use Rattle.fw_explore_laws.proofs.Reading.{AreForms}
use Rattle.fw_explore_laws.proofs.Remarks.{remark_lines, remarks_then}

-- the commands of lines
abbrev pub commands_in : List Line → List Command
commands_in lines = map (λ (l : Line). l.command) lines

rule_one : (r : RuleFault) → is_one_line (rule_name r) ≡ true
unfolding rule_name
rule_one Rules.UnknownName = refl
rule_one Rules.NameTaken = refl
rule_one Rules.TooMany = refl
rule_one Rules.NoDeck = refl
rule_one Rules.NoPort = refl
rule_one Rules.PortUsed = refl
rule_one Rules.Loop = refl
rule_one Rules.NotController = refl
rule_one Rules.NothingStands = refl
rule_one Rules.OffBus = refl
rule_one Rules.NotOwnPlug = refl
rule_one Rules.NoSuchConnection = refl
rule_one Rules.TableFull = refl
rule_one Rules.Busy = refl
rule_one Rules.NotCapable = refl
rule_one Rules.NotCandidate = refl
rule_one Rules.Guarded = refl
rule_one Rules.NoRegister = refl
rule_one Rules.Limit = refl
rule_one Rules.TooLate = refl

refusal_lines : (rule : RuleFault) (l : Line) → is_one_line l.text.items ≡ true → AreLines (refusal_of rule l) []
refusal_lines rule l one =
    remark_lines (codes "refused " ++ rule_name rule ++ codes ": " ++ l.text.items)
    (one_more (codes "refused " ++ rule_name rule ++ codes ": ") l.text.items
    (one_more (codes "refused " ++ rule_name rule) (codes ": ") (one_more (codes "refused ") (rule_name rule) refl (rule_one rule)) refl) one)

module _ (D : DeskRelations) (script : List Command) where
  -- what is told of those that a rule refused
  pub refused_lines : (cs : List Command) (lines : List Line) (written : List Timed) (kept : List Line) (refused : List ℕ) → Finishes D script cs lines written kept refused → AreForms lines
      → AreLines refused []
  refused_lines cs lines written kept refused done forms = no_line
  refused_lines cs lines written kept refused (carried {lines = ls} {kept = ks} {more = more} line m f) forms = refused_lines (cs ++ line.command ∷ []) ls more ks refused f forms.1
  refused_lines cs lines written kept refused (refuses {lines = ls} {refused = rest} line rule b d f) forms =
      remarks_then (refusal_lines rule line (form_one line.command line.text.items forms.0.0)) (refused_lines cs ls written kept rest f forms.1)

  -- the lines of the others
  pub kept_lines : (cs : List Command) (lines : List Line) (written : List Timed) (kept : List Line) (refused : List ℕ) → Finishes D script cs lines written kept refused → AreForms lines
      → AreShort (lines_text kept) (commands_in kept)
  kept_lines cs lines written kept refused done forms = none_short
  kept_lines cs lines written kept refused (carried {lines = ls} {kept = ks} {more = more} line m f) forms =
      both_short (one_line line.command line.text.items forms.0.0 forms.0.1 forms.0.2) (kept_lines (cs ++ line.command ∷ []) ls more ks refused f forms.1)
  kept_lines cs lines written kept refused (refuses {lines = ls} {refused = rest} line rule b d f) forms = kept_lines cs ls written kept rest f forms.1

  -- they are carried out one after the other
  pub kept_runs : IsFunction D → (cs : List Command) (lines : List Line) (written : List Timed) (kept : List Line) (refused : List ℕ) → Finishes D script cs lines written kept refused
      → (out : List Timed) (s : State) → Subsequent D script cs out s → (t : State) × Subsequent D script (cs ++ commands_in kept) (out ++ written) t
  kept_runs only cs lines written kept refused done out s b =
      (s, subst (λ z. Subsequent D script z (out ++ []) s) (sym (append-nil cs)) (subst (λ z. Subsequent D script cs z s) (sym (append-nil out)) b))
  kept_runs only cs lines written kept refused (carried {lines = ls} {kept = ks} {out = o} {more = more} line m f) out s b =
      let same : m.earlier ≡ out = sym (following_one D script only cs out m.earlier s m.from b m.before).0 in
      let after : Subsequent D script (cs ++ line.command ∷ []) (out ++ o) m.to = subst (λ z. Subsequent D script (cs ++ line.command ∷ []) (z ++ o) m.to) same m.after in
      let rest = kept_runs only (cs ++ line.command ∷ []) ls more ks refused f (out ++ o) m.to after in (
        rest.0,
        subst (λ z. Subsequent D script z (out ++ (o ++ more)) rest.0) (append_assoc cs (line.command ∷ []) (commands_in ks))
            (subst (λ z. Subsequent D script ((cs ++ line.command ∷ []) ++ commands_in ks) z rest.0) (append_assoc out o more) rest.1),
      )
  kept_runs only cs lines written kept refused (refuses {lines = ls} {refused = rest} line rule b' d f) out s b = kept_runs only cs ls written kept rest f out s b
