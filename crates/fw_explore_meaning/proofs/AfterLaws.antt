-- What is carried out after a script, with a desk that is a function: its entries and its state are one.
use Rattle.fw_explore_meaning.proofs.Common.{ℕ, ◌≡◌, List, [], ◌∷◌, ◌++◌, length, drop, Option, Some, Err, refl}
use Rattle.fw_explore_meaning.proofs.Common.{sym, ap, subst, ◌∙◌, Timed, Command, RuleFault, DeskRelations, IsFunction, Decides, State}
use Rattle.fw_explore_meaning.proofs.Common.{BusView, ContinuesRun, Subsequent, Moves}
use Rattle.std.proofs.Common.{Ok, append_assoc}
use Rattle.std.proofs.lemmas.List.{drop_at}
use Rattle.fw_model_run.specs.Given.{AreGiven}
use Rattle.fw_model_run.specs.Runs.{Run}
use Rattle.fw_model_run.proofs.Given.{given_then, given_append}
use Rattle.fw_model_run.proofs.OneLog.{one_run, last_of}
use Rattle.fw_model_run.proofs.Rules.{one_answer}
use Rattle.fw_explore_meaning.specs.Moves.{RunsTo}

pub same_tail : {T : Type 0} (xs ys ls ms : List T) → xs ≡ ys → xs ++ ls ≡ ys ++ ms → ls ≡ ms
same_tail xs ys ls ms e f = sym (drop_at xs ls (length xs) refl) ∙ ap (drop (length xs)) f ∙ drop_at ys ms (length xs) (ap length (sym e))

-- ---- one command more

module _ (D : DeskRelations) (script : List Command) where
  -- a bus that goes on from a state goes on after the script
  pub following_more : (cs : List Command) (c : Command) (out : List Timed) (s : State) (b : Subsequent D script cs out s) (now : BusView) (held after : Option (List ℕ))
      (d : ContinuesRun D (script ++ cs) b.whole.actions (b.earlier ++ out) s c now held after) → Subsequent D script (cs ++ c ∷ []) (out ++ d.out) d.state
  following_more cs c out s b now held after d = record {
    earlier = b.earlier;
    middle = b.middle;
    prefix = b.prefix;
    whole = record {
      actions = b.whole.actions ++ d.more;
      run = subst (λ z. Run z (b.whole.actions ++ d.more) (b.earlier ++ (out ++ d.out)) d.state) (append_assoc script cs (c ∷ []))
          (subst (λ z. Run (script ++ cs ++ c ∷ []) (b.whole.actions ++ d.more) z d.state) (append_assoc b.earlier out d.out) d.run);
      given = given_then D b.whole.actions d.more b.whole.given d.given;
    };
  }

  pub moves_of : (cs : List Command) (c : Command) (out : List Timed) (s : State) (b : Subsequent D script cs out s) (now : BusView) (held after : Option (List ℕ))
      (d : ContinuesRun D (script ++ cs) b.whole.actions (b.earlier ++ out) s c now held after) → Moves D script cs c d.out
  moves_of cs c out s b now held after d = record { earlier = out; from = s; to = d.state; before = b; after = following_more cs c out s b now held after d }

  -- ---- of a function

  module _ (only : IsFunction D) where
    pub following_one : (cs : List Command) (out other : List Timed) (s t : State) → Subsequent D script cs out s → Subsequent D script cs other t → (out ≡ other) × (s ≡ t)
    following_one cs out other s t a b =
        let first = one_run D only script a.prefix.actions b.prefix.actions a.earlier b.earlier a.middle b.middle a.prefix.run b.prefix.run a.prefix.given b.prefix.given in
        let all = one_run D only (script ++ cs) a.whole.actions b.whole.actions (a.earlier ++ out) (b.earlier ++ other) s t a.whole.run b.whole.run a.whole.given b.whole.given in
        (same_tail a.earlier b.earlier out other first.0 all.0, all.1)

    -- one more writes one thing
    pub moves_one : (cs : List Command) (c : Command) (out other : List Timed) → Moves D script cs c out → Moves D script cs c other → out ≡ other
    moves_one cs c out other m n =
        let before = following_one cs m.earlier n.earlier m.from n.from m.before n.before in
        let after = following_one (cs ++ c ∷ []) (m.earlier ++ out) (n.earlier ++ other) m.to n.to m.after n.after in
        same_tail m.earlier n.earlier out other before.0 after.0

    -- and none if a rule refuses it
    pub not_refused : (cs : List Command) (c : Command) (out other : List Timed) (s : State) (fault : RuleFault) → Subsequent D script cs out s → Decides s c (Err fault)
        → Moves D script cs c other → ⊥
    not_refused cs c out other s fault b refused m =
        let l = last_of (script ++ (cs ++ c ∷ [])) (script ++ cs) c m.after.whole.actions (m.after.earlier ++ (m.earlier ++ other)) m.to m.after.whole.run (sym (append_assoc script cs (c ∷ []))) in
        let given = given_append D l.early l.more (subst (AreGiven D) l.actions_are m.after.whole.given) in
        let same = one_run D only (script ++ cs) l.early b.whole.actions l.prefix (b.earlier ++ out) l.state s l.run b.whole.run given.0 b.whole.given in
        let ok : Decides s c (Ok l.order) = subst (λ z. Decides z c (Ok l.order)) same.1 l.decided in
        ok.1 fault refused.0
