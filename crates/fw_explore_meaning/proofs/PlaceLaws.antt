-- What the schedules of a place have alike: each move of one is a move of all, and leads all to one place.
use Rattle.fw_explore_meaning.proofs.Common.{ℕ, ◌≡◌, ◌+◌, ◌<◌, ◌≤◌, List, [], ◌∷◌, ◌++◌, Option, Some, Err, get_or}
use Rattle.fw_explore_meaning.proofs.Common.{false, IsTrue, IsFalse, refl, sym, ap, subst, ◌∙◌, arith, Contains, same_Some, Timed}
use Rattle.fw_explore_meaning.proofs.Common.{Command, words_of, Machine, RuleFault, DeskRelations, IsFunction, Decides, BusView, StandsFor, ContinuesRun, Mover, MoverKind, HalfSteps, Once, Explored}
use Rattle.fw_explore_meaning.proofs.Common.{IsMover, IsMove, IsCutOff, Subsequent, Moves, commands_of, History, told_entries, Leads, LeadsAt, LeadsTo, AreDone}
use Rattle.std.proofs.lemmas.Bool.{false≢true}
use Rattle.fw_kept_parts.proofs.WordLaws.{words_back}
use Rattle.fw_explore_movers.specs.Explored.{half_step_of}
use Rattle.fw_explore_meaning.specs.Moves.{IsAllowed, half_steps_in}
use Rattle.fw_explore_meaning.proofs.AfterLaws.{following_more, moves_of, moves_one, not_refused}
use Rattle.fw_explore_meaning.proofs.HistoryLaws.{told_more, apart, commands_more, half_more}

module _ (D : DeskRelations) (script : List Command) (x : Explored) where
  -- ---- keys

  -- the numbers of a place are read back from its key
  pub words_read : (Had : ℕ → History → Type 0) (Kept : List ℕ → Machine → Type 0) (w key : List ℕ) (l : LeadsTo D script x Had Kept w key) → words_of key ≡ l.words
  words_read Had Kept w key l = ap words_of l.key_is ∙ words_back l.words l.small

  pub leads_at : (Had : ℕ → History → Type 0) (Kept : List ℕ → Machine → Type 0) (w key : List ℕ) → LeadsTo D script x Had Kept w key → LeadsAt D script x Had Kept w (words_of key)
  leads_at Had Kept w key l = subst (LeadsAt D script x Had Kept w) (sym (words_read Had Kept w key l)) l.at

  -- what was kept is kept still if more is
  pub leads_wider : (Had Had' : ℕ → History → Type 0) (Kept Kept' : List ℕ → Machine → Type 0) → ((n : ℕ) (h : History) → Had n h → Had' n h) → ((n : List ℕ) (m : Machine) → Kept n m → Kept' n m)
      → (w key : List ℕ) → LeadsTo D script x Had Kept w key → LeadsTo D script x Had' Kept' w key
  leads_wider Had Had' Kept Kept' had kept w key l = record {
    words = l.words;
    key_is = l.key_is;
    small = l.small;
    at = record {
      past_at = l.at.past_at;
      half = l.at.half;
      machine_at = l.at.machine_at;
      words_are = l.at.words_are;
      past = l.at.past;
      had = had l.at.past_at l.at.past l.at.had;
      machine = l.at.machine;
      kept = kept l.at.machine_at l.at.machine l.at.kept;
      leads = l.at.leads;
    };
  }

  -- ---- a move

  module _ (half : ℕ) (past : History) (m : Machine) (w : List ℕ) (l : Leads D script x half past m w) (p : ℕ) (mover : Mover) (is : IsMover x p mover) where
    allowed_as : (kind : MoverKind) → mover.kind ≡ kind → (move : IsMove D script x w p) → IsAllowed x w p mover move.out kind
    allowed_as kind e move =
        let same : move.mover ≡ mover = same_Some move.mover mover (sym move.is ∙ is) in
        subst (IsAllowed x w p mover move.out) e (subst (λ z. IsAllowed x w p z move.out z.kind) same move.allowed)

    moves_as : (move : IsMove D script x w p) → Moves D script (commands_of x w) mover.command move.out
    moves_as move =
        let same : move.mover ≡ mover = same_Some move.mover mover (sym move.is ∙ is) in
        subst (λ z. Moves D script (commands_of x w) z.command move.out) same move.moves

    -- a line that was carried out is none
    pub not_again : mover.kind ≡ Once → IsTrue (get_or past.done p false) → IsMove D script x w p → ⊥
    not_again e t move = (allowed_as Once e move).0 ((l.done p mover is e).0 t)

    -- nor one of which an earlier mover has the same, that was not
    pub not_before : mover.kind ≡ Once → (q : ℕ) (n : Mover) → q < p → IsMover x q n → n.kind ≡ Once → n.line.items ≡ mover.line.items → IsFalse (get_or past.done q false) → IsMove D script x w p → ⊥
    not_before e q n less at once same f move =
        let there = (allowed_as Once e move).1 q n less at once same in
        false≢true (sym f ∙ (l.done q n at once).1 there)

    -- nor a half step beyond the most
    pub not_beyond : mover.kind ≡ HalfSteps → x.most ≤ half → IsMove D script x w p → ⊥
    not_beyond e full move = let less = (allowed_as HalfSteps e move).1 in let h = l.half_is in absurd (omega (arith, less, h, full))

    module _ (only : IsFunction D) where
      -- nor what a rule refuses
      pub not_ruled : (fault : RuleFault) → Decides l.state mover.command (Err fault) → IsMove D script x w p → ⊥
      not_ruled fault refused move = not_refused D script only (commands_of x w) mover.command l.out move.out l.state fault l.following refused (moves_as move)

      -- nor a half step that writes nothing
      pub not_silent : mover.kind ≡ HalfSteps → Moves D script (commands_of x w) mover.command [] → IsMove D script x w p → ⊥
      not_silent e silent move = (allowed_as HalfSteps e move).0 (moves_one D script only (commands_of x w) mover.command move.out [] (moves_as move) silent)

    -- what is carried out and allowed is one
    pub is_move : (out : List Timed) → Moves D script (commands_of x w) mover.command out → IsAllowed x w p mover out mover.kind → IsMove D script x w p
    is_move out moves allowed = record { mover = mover; is = is; out = out; moves = moves; allowed = allowed }

    -- a half step that writes is allowed below the most
    pub half_allowed : mover.kind ≡ HalfSteps → half < x.most → (out : List Timed) → (out ≡ [] → ⊥) → IsAllowed x w p mover out mover.kind
    half_allowed e less out writes =
        let h = l.half_is in
        let below : half_steps_in x w < x.most = omega (arith, less, h) in
        subst (IsAllowed x w p mover out) (sym e) (writes, below)

    -- and a line if it is the first of its kind that was not carried out
    pub once_allowed : mover.kind ≡ Once → IsFalse (get_or past.done p false)
        → ((q : ℕ) (n : Mover) → q < p → IsMover x q n → n.kind ≡ Once → n.line.items ≡ mover.line.items → IsTrue (get_or past.done q false)) → (out : List Timed)
        → IsAllowed x w p mover out mover.kind
    once_allowed e f earlier out = subst (IsAllowed x w p mover out) (sym e) (
      (λ c. false≢true (sym f ∙ (l.done p mover is e).1 c)),
      (λ q n less at once same. (l.done q n at once).0 (earlier q n less at once same)),
    )

    -- it leads on
    pub leads_on : (now : BusView) (held after : Option (List ℕ))
        (d : ContinuesRun D (script ++ commands_of x w) l.following.whole.actions (l.following.earlier ++ l.out) l.state mover.command now held after) (more : History)
        → AreDone x (w ++ p ∷ []) more.done
        → more.said ≡ past.said ++ told_entries d.out → Leads D script x (half + half_step_of (Some mover)) more now.machine (w ++ p ∷ [])
    leads_on now held after d more done said = record {
      out = l.out ++ d.out;
      state = d.state;
      following = subst (λ cs. Subsequent D script cs (l.out ++ d.out) d.state) (sym (commands_more x w p mover is))
          (following_more D script (commands_of x w) mover.command l.out l.state l.following now held after d);
      stands = d.stands;
      half_is = ap (λ n. n + half_step_of (Some mover)) l.half_is ∙ sym (half_more x w p mover is);
      done = done;
      said = said ∙ ap (λ z. z ++ told_entries d.out) l.said ∙ sym (told_more l.out d.out);
    }

    pub moves_on : (now : BusView) (held after : Option (List ℕ))
        (d : ContinuesRun D (script ++ commands_of x w) l.following.whole.actions (l.following.earlier ++ l.out) l.state mover.command now held after)
        → Moves D script (commands_of x w) mover.command d.out
    moves_on now held after d = moves_of D script (commands_of x w) mover.command l.out l.state l.following now held after d
