-- The log of a run has the tree of its last bus reset.
use Rattle.std.proofs.Common.{◌≡◌, ◌⊎◌, inl, inr, ℕ, List, [], ◌∷◌, ◌++◌, length, Option, Some, None, refl, ap, sym, subst, ◌∙◌, append_assoc}
use Rattle.fw_log_entry.specs.declared.entry.Entry.{Entry}
use Rattle.fw_log_entry.specs.declared.entry.Entry.TheVariants.{Reset, Async, Iso, Event, Outcome, Shown, End}
use Rattle.fw_log_entry.specs.declared.entry.ResetEntry.{ResetEntry}
use Rattle.fw_log_entry.specs.declared.entry.Timed.{Timed}
use Rattle.fw_tree.specs.declared.numbering.Numbering.{Numbering}
use Rattle.fw_tree.specs.Numbers.{number_at}
use Rattle.fw_tree.specs.Numbering.{IsNumbering}
use Rattle.fw_tree.specs.SelfIds.{ArePackets}
use Rattle.fw_tree.specs.Topology.{Topology, Made}
use Rattle.fw_map.specs.declared.tree.Tree.{Tree}
use Rattle.fw_map.specs.Trees.{HasPackets}
use Rattle.fw_map.specs.Identified.{IsTreeOf}
use Rattle.fw_model_account.specs.Account.{Account}
use Rattle.fw_model_account.specs.Events.{after_reset}
use Rattle.fw_model_account.specs.Fold.{account_from, entries_of, next_account, next_of, no_account}
use Rattle.fw_model_run.specs.Actions.{Action}
use Rattle.fw_model_run.specs.Deeds.{Transition, Transitions}
use Rattle.fw_model_run.specs.Good.{IsGood, IsLatest}
use Rattle.fw_model_run.specs.Headline.{IsSoundThroughout}
use Rattle.fw_model_run.specs.State.{State, first_state}
use Rattle.fw_log_reports.specs.Maps.{HasTree}
use Rattle.fw_log_reports.specs.Trees.{last_from, last_reset, reset_or}

-- ---- where the last reset stands

record Stands (ts : List Timed) (r : ResetEntry) : Type 0 where
  prefix : List Timed
  entry : Timed
  rest : List Timed
  is : ts ≡ prefix ++ entry ∷ rest
  what : entry.what ≡ Reset r

-- the last reset of entries after another is one of them, or the other
found : (before : Option ResetEntry) (ts : List Timed) (r : ResetEntry) → last_from before ts ≡ Some r → (before ≡ Some r) ⊎ Stands ts r
found before [] r e = inl e
found before (t ∷ ts) r e = go (found (reset_or t.what before) ts r e)
  where
    here : (x : Entry) → t.what ≡ x → reset_or x before ≡ Some r → (before ≡ Some r) ⊎ Stands (t ∷ ts) r
    here (Reset q) is same = let one : q ≡ r = cc same in inr (record { prefix = []; entry = t; rest = ts; is = refl; what = is ∙ ap (λ (x : ResetEntry). Reset x) one })
    here (Async p) is same = inl same
    here (Iso p) is same = inl same
    here (Event x) is same = inl same
    here (Outcome o) is same = inl same
    here (Shown s) is same = inl same
    here End is same = inl same

    go : (reset_or t.what before ≡ Some r) ⊎ Stands ts r → (before ≡ Some r) ⊎ Stands (t ∷ ts) r
    go (inl same) = here t.what refl same
    go (inr s) = inr (record { prefix = t ∷ s.prefix; entry = s.entry; rest = s.rest; is = ap (λ (us : List Timed). t ∷ us) s.is; what = s.what })

stands : (ts : List Timed) (r : ResetEntry) → last_reset ts ≡ Some r → Stands ts r
stands ts r e = go (found None ts r e)
  where
    go : (None ≡ Some r) ⊎ Stands ts r → Stands ts r
    go (inl wrong) = absurd (cc wrong)
    go (inr s) = s

-- the account after a reset has its entry
following : (o : Option Account) (prefix : List Timed) (t : Timed) (r : ResetEntry) (l : Account) → t.what ≡ Reset r → account_from o (entries_of (prefix ++ t ∷ [])) ≡ Some l → l.latest ≡ Some r
following None [] t r l is e = cc e
following (Some k) [] t r l is e =
    let next : next_account k (Reset r) ≡ Some l = subst (λ (x : Entry). next_account k x ≡ Some l) is e in
    let same : after_reset r k ≡ l = cc next in
    ap (λ (m : Account). m.latest) (sym same)
following o (u ∷ prefix) t r l is e = following (next_of o u.what) prefix t r l is e

-- ---- what the state after it says

-- each state is good, and the tree of a cabling has its self-ID packets
module _ (step : (s : State) (a : Action) (out : List Timed) (t : State) → IsGood s → Transition s a out t → IsGood t)
    (tells : (p : Topology) (n : Numbering) (i : ℕ) (e : ResetEntry) → Made p → IsNumbering p n → ArePackets p.devices p.cables n.number n.parent_port i n.count e.ids
    → length e.nodes ≡ n.count → number_at n.number n.root ≡ Some e.root → (t : Tree) × IsTreeOf p n t × HasPackets e t) where
  good : (s t : State) (actions : List Action) (out : List Timed) → IsGood s → Transitions s actions out t → IsGood t
  good s t [] out g f = subst (λ (x : State). IsGood x) (sym f.1) g
  good s t (a ∷ actions) out g f = good f.2 t actions f.1 (step s a f.0 f.2 g f.3) f.5

  -- the log of a run, or of any actions
  pub run_tree : (actions : List Action) (log : List Timed) (r : ResetEntry) → IsGood first_state → IsSoundThroughout actions log → last_reset log ≡ Some r → HasTree log
  run_tree actions log r first sound last =
      let at = stands log r last in
      let prefix = at.prefix ++ at.entry ∷ [] in
      let f = sound.fronts prefix at.rest (at.is ∙ sym (append_assoc at.prefix (at.entry ∷ []) at.rest)) in
      let here = sound.states f.0 f.1 prefix f.2 f.3 f.4 in
      let latest = following (Some no_account) at.prefix at.entry r f.2.account at.what here.account in
      let g = good first_state f.2 f.0 prefix first f.4 in
      let known : IsLatest (Some r) f.2.declared f.2.account = subst (λ (o : Option ResetEntry). IsLatest o f.2.declared f.2.account) latest g.latest in
      let tree = tells f.2.declared.topology known.5.1.numbering known.5.0 r g.declared.made known.5.1.numbered known.5.1.ids known.5.1.size known.5.1.root in
      record { reset = r; last = last; tree = tree.0; packets = tree.2 }
