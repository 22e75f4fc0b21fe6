-- Commands from a state on, one after another; and a run as one part after another.
use Rattle.fw_explore_laws.proofs.Common.{◌≡◌, List, [], ◌∷◌, ◌++◌, Ok, refl, sym, ap, subst, ◌∙◌, append_assoc, append-nil, Timed, Command, State, Action}
use Rattle.fw_order.specs.declared.order.Order.{Order}
use Rattle.fw_model_run.specs.Carrying.{Carries}
use Rattle.fw_model_run.specs.Rules.{Decides}
use Rattle.fw_model_run.specs.Runs.{Run, and_then}
use Rattle.fw_model_run.proofs.OneLog.{last_of}

-- the commands are carried out from a state on, none of which breaks a rule
abbrev pub Carried : State → List Command → List Action → List Timed → State → Type 0
Carried s [] actions out t = (actions ≡ []) × (out ≡ []) × (t ≡ s)
Carried s (c ∷ cs) actions out t =
    (o : Order) × (first : List Action) × (more : List Action) × (now : List Timed) × (later : List Timed) × (m : State) × Decides s c (Ok o) × Carries s o first now m × Carried m cs more later t
    × (actions ≡ first ++ more) × (out ≡ now ++ later)

-- a run goes on with them
pub run_on : (ds cs : List Command) (a b : List Action) (l o : List Timed) (s t : State) → Run cs a l s → Carried s ds b o t → Run (cs ++ ds) (a ++ b) (l ++ o) t
run_on [] cs a b l o s t run f =
    subst (λ z. Run z (a ++ b) (l ++ o) t) (sym (append-nil cs)) (subst (λ z. Run cs z (l ++ o) t) (sym (ap (λ z. a ++ z) f.0 ∙ append-nil a))
    (subst (λ z. Run cs a z t) (sym (ap (λ z. l ++ z) f.1 ∙ append-nil l)) (subst (Run cs a l) (sym f.2) run)))
run_on (c ∷ ds) cs a b l o s t run f =
    let rest = run_on ds (cs ++ c ∷ []) (a ++ f.1) f.2 (l ++ f.3) f.4 f.5 t (and_then run c f.0 f.1 f.3 f.5 f.6 f.7) f.8 in
    let commands : (cs ++ c ∷ []) ++ ds ≡ cs ++ c ∷ ds = append_assoc cs (c ∷ []) ds in
    let actions : (a ++ f.1) ++ f.2 ≡ a ++ b = append_assoc a f.1 f.2 ∙ ap (λ z. a ++ z) (sym f.9) in
    let out : (l ++ f.3) ++ f.4 ≡ l ++ o = append_assoc l f.3 f.4 ∙ ap (λ z. l ++ z) (sym f.10) in
    subst (λ z. Run z (a ++ b) (l ++ o) t) commands (subst (λ z. Run ((cs ++ c ∷ []) ++ ds) z (l ++ o) t) actions (subst (λ z. Run ((cs ++ c ∷ []) ++ ds) ((a ++ f.1) ++ f.2) z t) out rest))

-- a run up to some commands, and from there on
pub record Split (cs ds : List Command) (a : List Action) (l : List Timed) (t : State) : Type 0 where
  pub early : List Action
  pub prefix : List Timed
  pub middle : State
  pub run : Run cs early prefix middle
  pub more : List Action
  pub later : List Timed
  pub carried : Carried middle ds more later t
  pub actions_are : a ≡ early ++ more
  pub log_is : l ≡ prefix ++ later

pub run_split : (ds cs all : List Command) (a : List Action) (l : List Timed) (t : State) → Run all a l t → all ≡ cs ++ ds → Split cs ds a l t
run_split [] cs all a l t run e = record {
  early = a;
  prefix = l;
  middle = t;
  run = subst (λ z. Run z a l t) (e ∙ append-nil cs) run;
  more = [];
  later = [];
  carried = (refl, refl, refl);
  actions_are = sym (append-nil a);
  log_is = sym (append-nil l);
}
run_split (d ∷ ds) cs all a l t run e =
    let rest = run_split ds (cs ++ d ∷ []) all a l t run (e ∙ sym (append_assoc cs (d ∷ []) ds)) in
    let last = last_of (cs ++ d ∷ []) cs d rest.early rest.prefix rest.middle rest.run refl in
    record {
      early = last.early;
      prefix = last.prefix;
      middle = last.state;
      run = last.run;
      more = last.more ++ rest.more;
      later = last.out ++ rest.later;
      carried = (last.order, last.more, rest.more, last.out, rest.later, rest.middle, last.decided, last.carries, rest.carried, refl, refl);
      actions_are = rest.actions_are ∙ ap (λ z. z ++ rest.more) last.actions_are ∙ append_assoc last.early last.more rest.more;
      log_is = rest.log_is ∙ ap (λ z. z ++ rest.later) last.log_is ∙ append_assoc last.prefix last.out rest.later;
    }

-- ---- in two parts

pub carried_then : (cs ds : List Command) (a b : List Action) (o u : List Timed) (s m t : State) → Carried s cs a o m → Carried m ds b u t → Carried s (cs ++ ds) (a ++ b) (o ++ u) t
carried_then [] ds a b o u s m t f g =
    subst (λ z. Carried s ds (z ++ b) (o ++ u) t) (sym f.0) (subst (λ z. Carried s ds b (z ++ u) t) (sym f.1) (subst (λ z. Carried z ds b u t) f.2 g))
carried_then (c ∷ cs) ds a b o u s m t f g = (
  f.0,
  f.1,
  f.2 ++ b,
  f.3,
  f.4 ++ u,
  f.5,
  f.6,
  f.7,
  carried_then cs ds f.2 b f.4 u f.5 m t f.8 g,
  ap (λ z. z ++ b) f.9 ∙ append_assoc f.1 f.2 b,
  ap (λ z. z ++ u) f.10 ∙ append_assoc f.3 f.4 u,
)

pub record Parts (s : State) (cs ds : List Command) (a : List Action) (o : List Timed) (t : State) : Type 0 where
  pub first : List Action
  pub now : List Timed
  pub middle : State
  pub prefix : Carried s cs first now middle
  pub more : List Action
  pub later : List Timed
  pub rest : Carried middle ds more later t
  pub actions_are : a ≡ first ++ more
  pub out_is : o ≡ now ++ later

pub carried_parts : (cs ds : List Command) (a : List Action) (o : List Timed) (s t : State) → Carried s (cs ++ ds) a o t → Parts s cs ds a o t
carried_parts [] ds a o s t f = record { first = []; now = []; middle = s; prefix = (refl, refl, refl); more = a; later = o; rest = f; actions_are = refl; out_is = refl }
carried_parts (c ∷ cs) ds a o s t f =
    let p = carried_parts cs ds f.2 f.4 f.5 t f.8 in
    record {
      first = f.1 ++ p.first;
      now = f.3 ++ p.now;
      middle = p.middle;
      prefix = (f.0, f.1, p.first, f.3, p.now, f.5, f.6, f.7, p.prefix, refl, refl);
      more = p.more;
      later = p.later;
      rest = p.rest;
      actions_are = f.9 ∙ ap (λ z. f.1 ++ z) p.actions_are ∙ sym (append_assoc f.1 p.first p.more);
      out_is = f.10 ∙ ap (λ z. f.3 ++ z) p.out_is ∙ sym (append_assoc f.3 p.now p.later);
    }

-- the same with other commands in the middle, which do the same
pub as_run : {cs : List Command} {a b : List Action} {l o : List Timed} {t : State} → a ≡ b → l ≡ o → Run cs a l t → Run cs b o t
as_run {cs = cs} {a = a} {b = b} {l = l} {o = o} {t = t} e f run = subst (λ z. Run cs z o t) e (subst (λ z. Run cs a z t) f run)
