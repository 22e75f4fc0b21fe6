-- What a line that was read gives.
use Rattle.std.proofs.Common.{◌≤◌, ◌≡◌, ◌≢◌, ◌⊎◌, ◌↔◌, inl, inr, ℕ, [], ◌<◌, List, length, take, Bool, true, false, Option, Some, None, Ok, Err, arith, refl, ap, sym, ◌∙◌, subst, length-drop}
use Rattle.std.proofs.lemmas.List.{append-nil}
use Rattle.fw_outside.proofs.Parts.{Takes-nothing}
use Rattle.fw_script.specs.Line.{is_skipped}
use Rattle.fw_script_command.specs.Form.{HasForm}
use Rattle.fw_script.specs.Reader.{ReadsLine, HoldsLine, IsNear, IsOpen, to_read}
use Rattle.fw_script.proofs.LineLaws.{line_near}
use Rattle.fw_script.specs.Reader.PassesOver.{nowhere, over_skipped, over_end}
use Rattle.fw_script.specs.Reading.{Reading, Answer, GivesFirst, IsLine, IsAtEndOfInput, IsLongLine, PassesLimit, following, at_stage, refused, TakesMore, Advances, GivesNext, IsStageAfter}
use Rattle.fw_script.specs.Reading.GivesFirst.{skipped, command, end_line, bad_line, long_line, too_long, end_of_input, no_end, read_fault}
use Rattle.fw_script_command.specs.declared.command.Command.{Command}
use Rattle.fw_script_command.specs.declared.command.Command.TheVariants.{End}
use Rattle.fw_script.specs.declared.ScriptFault.TheVariants.{BadLine, LineTooLong, NoEnd, TooLong}
use Rattle.fw_script.specs.declared.stage.ReaderStage.{ReaderStage}
use Rattle.fw_script.specs.declared.stage.ReaderStage.TheVariants.{Commands, AfterEnd, Done, Failed}

-- a reading that is the same
pub gives_at : (p q new : Reading) (r : Answer) → new ≡ q → GivesFirst p r q → GivesFirst p r new
gives_at p q new r e g = subst (λ (z : Reading). GivesFirst p r z) (sym e) g

line_of : (p : Reading) (n size : ℕ) (text : List ℕ) → text ≡ take n p.rest → HoldsLine p n size → IsLine p text size
line_of p n size text e h = subst (λ (t : List ℕ). IsLine p t size) (sym e) h.line

-- after a line, told by its text
after_text : (p new : Reading) (n size : ℕ) (text : List ℕ) → text ≡ take n p.rest → new ≡ following p (take n p.rest) size → new ≡ following p text size
after_text p new n size text e is = is ∙ ap (λ (t : List ℕ). following p t size) (sym e)

-- after a line less is to be read
less_after : (p : Reading) (n size : ℕ) (text : List ℕ) → IsNear p.rest → HoldsLine p n size → to_read (following p text size) < to_read p
less_after p n size text near h = omega (arith, length-drop size p.rest, h.all, h.some, h.line.within, near.few)

pub reads_skipped : (p new : Reading) (n size : ℕ) (text : List ℕ) → text ≡ take n p.rest → HoldsLine p n size → new ≡ following p (take n p.rest) size → IsNear p.rest → IsOpen p.stage
    → is_skipped text ≡ true → ReadsLine p (Ok None) new
reads_skipped p new n size text e h is near stage skip =
    subst (λ (z : Reading). ReadsLine p (Ok None) z) (sym (after_text p new n size text e is))
    (over_skipped text size (line_of p n size text e h) skip nowhere, stage, less_after p n size text near h)

pub reads_command : (p new : Reading) (n size : ℕ) (text : List ℕ) (c : Command) → text ≡ take n p.rest → HoldsLine p n size → new ≡ following p (take n p.rest) size → is_skipped text ≡ false
    → p.stage ≡ Commands → HasForm c text → c ≢ End → GivesFirst p (Ok (Some c)) new
reads_command p new n size text c e h is skip stage form other =
    gives_at p (following p text size) new (Ok (Some c)) (after_text p new n size text e is) (command c text size (line_of p n size text e h) skip stage form other)

pub reads_end_line : (p mid new : Reading) (n size : ℕ) (text : List ℕ) → text ≡ take n p.rest → HoldsLine p n size → mid ≡ following p (take n p.rest) size → new ≡ at_stage mid AfterEnd
    → IsNear p.rest
    → is_skipped text ≡ false → p.stage ≡ Commands → HasForm End text → ReadsLine p (Ok None) new
reads_end_line p mid new n size text e h is then near skip stage form =
    subst (λ (z : Reading). ReadsLine p (Ok None) z) (sym (then ∙ ap (λ (m : Reading). at_stage m AfterEnd) (after_text p mid n size text e is)))
    (over_end text size (line_of p n size text e h) skip stage form nowhere, tt, less_after p n size text near h)

pub reads_bad_line : (p mid new : Reading) (n size : ℕ) (text : List ℕ) → text ≡ take n p.rest → HoldsLine p n size → mid ≡ following p (take n p.rest) size → new ≡ at_stage mid Failed
    → is_skipped text ≡ false → (p.stage ≡ AfterEnd) ⊎ ((c : Command) → HasForm c text → ⊥) → GivesFirst p (Err BadLine) new
reads_bad_line p mid new n size text e h is then skip why =
    gives_at p (at_stage (following p text size) Failed) new (Err BadLine) (then ∙ ap (λ (m : Reading). at_stage m Failed) (after_text p mid n size text e is))
    (bad_line text size (line_of p n size text e h) skip why)

pub reads_long_line : (p new : Reading) → IsLongLine p → new ≡ refused p (take 257 p.rest) → GivesFirst p (Err LineTooLong) new
reads_long_line p new h is = gives_at p (refused p (take 257 p.rest)) new (Err LineTooLong) is (long_line h)

pub reads_limit : (p new : Reading) → PassesLimit p → new ≡ at_stage p Failed → GivesFirst p (Err TooLong) new
reads_limit p new h is = gives_at p (at_stage p Failed) new (Err TooLong) is (too_long h)

pub reads_end : (p new : Reading) → IsAtEndOfInput p → p.stage ≡ AfterEnd → new ≡ at_stage p Done → GivesFirst p (Ok (Some End)) new
reads_end p new h stage is = gives_at p (at_stage p Done) new (Ok (Some End)) is (end_of_input h stage)

pub reads_no_end : (p new : Reading) → IsAtEndOfInput p → p.stage ≡ Commands → new ≡ refused p (take 0 p.rest) → GivesFirst p (Err NoEnd) new
reads_no_end p new h stage is = gives_at p (refused p []) new (Err NoEnd) is (no_end h stage)

-- why a line is refused
pub refused_stage : (p : Reading) (commands : Bool) (text : List ℕ) → (commands ≡ false → p.stage ≡ AfterEnd) → (commands ≡ false) ⊎ ((c : Command) → HasForm c text → ⊥)
    → (p.stage ≡ AfterEnd) ⊎ ((c : Command) → HasForm c text → ⊥)
refused_stage p commands text after (inl e) = inl (after e)
refused_stage p commands text after (inr h) = inr h

-- how a reading stands after an answer
abbrev AfterAnswer : Answer → ReaderStage → Type 0
AfterAnswer (Ok None) s = ⊥
AfterAnswer (Ok (Some c)) s = (s ≢ Failed) × ((c ≡ End) ↔ (s ≡ Done))
AfterAnswer (Err f) s = s ≡ Failed

gives_stage : {p : Reading} {r : Answer} {q : Reading} → GivesFirst p r q → AfterAnswer r q.stage
gives_stage (skipped t n a k g) = gives_stage g
gives_stage (command c t n a k i f o) = ((λ e. let x = i in cc), ((λ e. absurd (o e)), (λ e. let x = i in absurd cc)))
gives_stage (end_line t n a k i f g) = gives_stage g
gives_stage (bad_line t n a k w) = refl
gives_stage (long_line a) = refl
gives_stage (too_long a) = refl
gives_stage (end_of_input a i) = ((λ e. cc), ((λ e. refl), (λ e. refl)))
gives_stage (no_end a i) = refl
gives_stage read_fault = refl

open_not_done : (s : ReaderStage) → IsOpen s → s ≢ Done
open_not_done Commands o e = cc
open_not_done AfterEnd o e = cc
open_not_done Done o e = o
open_not_done Failed o e = cc

stage_of : (s z : ReaderStage) (r : Answer) → IsOpen s → AfterAnswer r z → IsStageAfter s r z
stage_of s z (Ok None) o h = absurd h
stage_of s z (Ok (Some c)) o h = (open_not_done s o, h.0, h.1)
stage_of s z (Err f) o h = (open_not_done s o, h)

pub stage_after : (s : ReaderStage) (p q : Reading) (r : Answer) → IsOpen s → GivesFirst p r q → IsStageAfter s r q.stage
stage_after s p q r o g = stage_of s q.stage r o (gives_stage g)

-- nothing was taken
pub nothing_taken : (p : Reading) (left : Option (List ℕ)) → TakesMore p p left left
nothing_taken p left =
    record {
      taken = [];
      takes = Takes-nothing left;
      kept = λ w. (refl, w);
      met = λ w v. absurd cc;
      now = ap (λ (xs : List ℕ). record { rest = xs; whole = p.whole; before = p.before; line = p.line; stage = p.stage; text = p.text; end = p.end }) (sym (append-nil p.rest));
    }

gives_done : (s : ReaderStage) (p : Reading) → s ≡ Done → GivesNext s p (Ok None) p
gives_done Commands p e = absurd cc
gives_done AfterEnd p e = absurd cc
gives_done Done p e = (refl, refl)
gives_done Failed p e = absurd cc

-- after the end
pub after_end : (p : Reading) (left : Option (List ℕ)) → p.stage ≡ Done → Advances p p left left (Ok None)
after_end p left e = record { known = p; takes = nothing_taken p left; gives = gives_done p.stage p e }

pub gives_open : (s : ReaderStage) (p q : Reading) (r : Answer) → IsOpen s → GivesFirst p r q → GivesNext s p r q
gives_open Commands p q r o g = g
gives_open AfterEnd p q r o g = g
gives_open Done p q r o g = absurd o
gives_open Failed p q r o g = absurd o

-- after a line few bytes are held
pub few_following : (p new : Reading) (n size : ℕ) → IsNear p.rest → HoldsLine p n size → new ≡ following p (take n p.rest) size → length new.rest ≤ 4096
few_following p new n size near h is = subst (λ (q : Reading). length q.rest ≤ 4096) (sym is) (line_near p (take n p.rest) size near h.line)

-- a refused line
pub few_refused : (p mid new : Reading) (n size : ℕ) → IsNear p.rest → HoldsLine p n size → mid ≡ following p (take n p.rest) size → new ≡ at_stage mid Failed → length new.rest ≤ 4096
few_refused p mid new n size near h is then = subst (λ (q : Reading). length q.rest ≤ 4096) (sym then) (few_following p mid n size near h is)
