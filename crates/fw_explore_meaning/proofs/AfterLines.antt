-- The lines after an interleaving, one after the other.
use Rattle.fw_explore_meaning.proofs.Common.{ℕ, ◌≡◌, ◌+◌, ◌<◌, List, [], ◌∷◌, ◌++◌, Option, Some, None, Err, length, drop, get_or, refl, sym, ap, subst, ◌∙◌, codes, Timed, Command, Machine, RuleFault}
use Rattle.fw_explore_meaning.proofs.Common.{DeskRelations, Decides, State, BusView, StandsFor, ContinuesRun, Line, Subsequent, History, told_entries}
use Rattle.std.proofs.Common.{take, append_assoc, append-nil}
use Rattle.std.proofs.lemmas.List.Concat.{flat_map-append}
use Rattle.fw_explore_meaning.specs.Endings.{Finishes, done, carried, refuses, refusal_of}
use Rattle.fw_explore_told.specs.Sayings.{lines_text}
use Rattle.fw_explore_meaning.specs.Finishing.{CarriedAfter}
use Rattle.fw_explore_meaning.proofs.AfterLaws.{following_more, moves_of}
use Rattle.fw_explore_meaning.proofs.HistoryLaws.{told_more}

abbrev pub line_of : Line → List ℕ
line_of line = line.text.items ++ 10 ∷ []

-- so many lines were carried out or refused, and what comes after them finishes what was begun
pub record Midway (D : DeskRelations) (script commands : List Command) (out : List Timed) (lines : List Line) (k : ℕ) (past past' : History) (refused refused' text text' : List ℕ) (bus : Machine) :
    Type 0 where
  pub now : List Command
  pub written : List Timed
  pub kept : List Line
  pub told : List ℕ
  pub state : State
  pub following : Subsequent D script now (out ++ written) state
  pub stands : StandsFor bus state
  pub goes : (more : List Timed) (others : List Line) (later : List ℕ) → Finishes D script now (drop k lines) more others later
      → Finishes D script commands lines (written ++ more) (kept ++ others) (told ++ later)
  pub done : past'.done ≡ past.done
  pub said : past'.said ≡ past.said ++ told_entries written
  pub refused_are : refused' ≡ refused ++ told
  pub lines_are : text' ≡ text ++ lines_text kept

module _ (D : DeskRelations) (script commands : List Command) (out : List Timed) (lines : List Line) (past : History) (refused text : List ℕ) where
  pub midway_first : (s : State) (bus : Machine) → Subsequent D script commands out s → StandsFor bus s → Midway D script commands out lines 0 past past refused refused text text bus
  midway_first s bus b stands = record {
    now = commands;
    written = [];
    kept = [];
    told = [];
    state = s;
    following = subst (λ z. Subsequent D script commands z s) (sym (append-nil out)) b;
    stands = stands;
    goes = λ more others later f. f;
    done = refl;
    said = sym (append-nil past.said);
    refused_are = sym (append-nil refused);
    lines_are = sym (append-nil text);
  }

  module _ (k : ℕ) (past' : History) (refused' text' : List ℕ) (bus : Machine) (m : Midway D script commands out lines k past past' refused refused' text text' bus) (line : Line) (next : drop k lines
      ≡ line ∷ drop (k + 1) lines) where
    pub midway_carried : (bus' : BusView) (held after : Option (List ℕ))
        (d : ContinuesRun D (script ++ m.now) m.following.whole.actions (m.following.earlier ++ (out ++ m.written)) m.state line.command
        bus' held after)
        (past'' : History) (text'' : List ℕ) → past''.done ≡ past'.done → past''.said ≡ past'.said ++ told_entries d.out → text'' ≡ text' ++ line_of line
        → Midway D script commands out lines (k + 1) past past'' refused refused' text text'' bus'.machine
    midway_carried bus' held after d past'' text'' same said lines_are = record {
      now = m.now ++ line.command ∷ [];
      written = m.written ++ d.out;
      kept = m.kept ++ line ∷ [];
      told = m.told;
      state = d.state;
      following = subst (λ z. Subsequent D script (m.now ++ line.command ∷ []) z d.state) (append_assoc out m.written d.out)
          (following_more D script m.now line.command (out ++ m.written) m.state m.following bus'
          held after d);
      stands = d.stands;
      goes = λ more others later f.
          let moves = moves_of D script m.now line.command (out ++ m.written) m.state m.following bus' held after d in
          let all = m.goes (d.out ++ more) (line ∷ others) later (subst (λ z. Finishes D script m.now z (d.out ++ more) (line ∷ others) later) (sym next) (carried line moves f)) in
          subst (λ z. Finishes D script commands lines z (m.kept ++ line ∷ [] ++ others) (m.told ++ later)) (sym (append_assoc m.written d.out more))
          (subst (λ z. Finishes D script commands lines (m.written ++ (d.out ++ more)) z (m.told ++ later)) (sym (append_assoc m.kept (line ∷ []) others)) all);
      done = same ∙ m.done;
      said = said ∙ ap (λ z. z ++ told_entries d.out) m.said ∙ append_assoc past.said (told_entries m.written) (told_entries d.out) ∙ ap (λ z. past.said ++ z) (sym (told_more m.written d.out));
      refused_are = m.refused_are;
      lines_are = lines_are ∙ ap (λ z. z ++ line_of line) m.lines_are ∙ append_assoc text (lines_text m.kept) (line_of line)
          ∙ ap (λ z. text ++ z) (ap (λ z. lines_text m.kept ++ z) (sym (append-nil (line_of line))) ∙ sym (flat_map-append line_of m.kept (line ∷ [])));
    }

    pub midway_refused : (bus' : Machine) (rule : RuleFault) → Decides m.state line.command (Err rule) → StandsFor bus' m.state → (refused'' : List ℕ) → refused'' ≡ refused' ++ refusal_of rule line
        → Midway D script commands out lines (k + 1) past past' refused refused'' text text' bus'
    midway_refused bus' rule decides stands refused'' is = record {
      now = m.now;
      written = m.written;
      kept = m.kept;
      told = m.told ++ refusal_of rule line;
      state = m.state;
      following = m.following;
      stands = stands;
      goes = λ more others later f.
          let all = m.goes more others (refusal_of rule line ++ later) (subst (λ z. Finishes D script m.now z more others (refusal_of rule line ++ later)) (sym next) (refuses line rule m.following
          decides f)) in
          subst (λ z. Finishes D script commands lines (m.written ++ more) (m.kept ++ others) z) (sym (append_assoc m.told (refusal_of rule line) later)) all;
      done = m.done;
      said = m.said;
      refused_are = is ∙ ap (λ z. z ++ refusal_of rule line) m.refused_are ∙ append_assoc refused m.told (refusal_of rule line);
      lines_are = m.lines_are;
    }

  -- at the end
  pub midway_last : (k : ℕ) (past' : History) (refused' text' : List ℕ) (bus : Machine) → drop k lines ≡ [] → Midway D script commands out lines k past past' refused refused' text text' bus
      → CarriedAfter D script commands lines past past' refused refused' text text'
  midway_last k past' refused' text' bus end m =
      let all = m.goes [] [] [] (subst (λ z. Finishes D script m.now z [] [] []) (sym end) done) in
      record {
        written = m.written;
        kept = m.kept;
        told = m.told;
        finishes = subst (λ z. Finishes D script commands lines z m.kept m.told) (append-nil m.written)
            (subst (λ z. Finishes D script commands lines (m.written ++ []) z m.told) (append-nil m.kept)
            (subst (λ z. Finishes D script commands lines (m.written ++ []) (m.kept ++ []) z) (append-nil m.told) all));
        done = m.done;
        said = m.said;
        refused_are = m.refused_are;
        lines_are = m.lines_are;
      }
