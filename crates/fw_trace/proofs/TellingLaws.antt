-- What a sink that tells has told, piece by piece.
use Rattle.fw_trace.proofs.Common.{◌≡◌, refl, sym, ap, ◌∙◌, ℕ, ◌+◌, ◌<◌, false, List, [], ◌++◌, length, Option, Some, None, append_assoc, arith, append-nil, length-append}
use Rattle.fw_trace.proofs.Common.{HasRead, Telling, caused_text, Traced, lines_from, telling_following, Tells, ToldPart, TellsBy, Lack}
use Rattle.std.proofs.Common.{zero, suc}
use Rattle.std.proofs.Math.Logic.{∥∥₁_map}
use Rattle.std.proofs.lemmas.Bool.{eqb-false}
use Rattle.std.specs.Prelude.{◌==◌}
use Rattle.std.specs.Option.{is_some}
use Rattle.fw_log.specs.Reader.{State}
use Rattle.fw_trace.specs.Telling.{TakesPart}
use Rattle.fw_trace.proofs.PieceLaws.{after_append, text_append}

-- ---- what was told

-- no more is told, since memory ran out
pub told_part : (origin now : Traced) (r : State) (count : ℕ) (earlier bytes passed piece : List ℕ) → Tells origin now r count earlier bytes passed → ToldPart origin earlier (bytes ++ piece) passed
told_part origin now r count earlier bytes passed piece x = record {
  before = x.before;
  out = x.out;
  begun = x.begun;
  began = x.began;
  prefix = bytes;
  more = piece;
  last = r;
  parts = refl;
  read = x.read;
  rest = now.text;
  text = x.text;
}

more_text : (passed text new whole more : List ℕ) → passed ++ text ≡ whole → new ≡ text ++ more → passed ++ new ≡ whole ++ more
more_text passed text new whole more e f = ap (λ (l : List ℕ). passed ++ l) f ∙ sym (append_assoc passed text more) ∙ ap (λ (l : List ℕ). l ++ more) e

-- a piece was read, and its text is to be passed on
text_on : (origin now now' : Traced) (r r' : State) (count : ℕ) (earlier bytes passed piece : List ℕ) (x : Tells origin now r count earlier bytes passed)
    → (p : TakesPart (x.before ++ x.out) bytes piece now now' r') → passed ++ now'.text ≡ origin.text ++ caused_text (lines_from origin.telling (x.out ++ p.out))
text_on origin now now' r r' count earlier bytes passed piece x p =
    more_text passed now.text now'.text (origin.text ++ caused_text (lines_from origin.telling x.out)) (caused_text (lines_from (telling_following origin.telling x.out) p.out)) x.text
    (p.text ∙ ap (λ (k : Telling). now.text ++ caused_text (lines_from k p.out)) x.kept)
    ∙ append_assoc origin.text (caused_text (lines_from origin.telling x.out)) (caused_text (lines_from (telling_following origin.telling x.out) p.out))
    ∙ ap (λ (l : List ℕ). origin.text ++ l) (sym (text_append origin.telling x.out p.out))

-- some of it was passed on, or all, or nothing
pub told_on : (origin now now' now'' : Traced) (r r' : State) (count count' : ℕ) (earlier bytes passed passed' piece : List ℕ) (x : Tells origin now r count earlier bytes passed)
    → TakesPart (x.before ++ x.out) bytes piece now now' r' → count' ≡ count + length piece → 0 < length piece
    → passed' ++ now''.text ≡ passed ++ now'.text → now''.telling ≡ now'.telling → Tells origin now'' r' count' earlier (bytes ++ piece) passed'
told_on origin now now' now'' r r' count count' earlier bytes passed passed' piece x p counted some given same = record {
  before = x.before;
  out = x.out ++ p.out;
  begun = x.begun;
  began = x.began;
  read = rw (sym (append_assoc x.before x.out p.out)) p.read;
  counted = counted ∙ ap (λ (n : ℕ). n + length piece) x.counted ∙ sym (length-append bytes piece);
  text = given ∙ text_on origin now now' r r' count earlier bytes passed piece x p;
  kept = same ∙ p.kept ∙ ap (λ (k : Telling). telling_following k p.out) x.kept ∙ sym (after_append origin.telling x.out p.out);
  later = omega (arith, x.later, length-append bytes piece);
  waits = λ e. absurd (omega (arith, some, x.later, length-append bytes piece, ap length e));
}

-- the sink failed: a prefix of it was passed on
pub told_prefix : (origin now now' now'' : Traced) (r r' : State) (count : ℕ) (earlier bytes passed passed' piece : List ℕ) (x : Tells origin now r count earlier bytes passed)
    → TakesPart (x.before ++ x.out) bytes piece now now' r' → passed' ++ now''.text ≡ passed ++ now'.text → ToldPart origin earlier (bytes ++ piece) passed'
told_prefix origin now now' now'' r r' count earlier bytes passed passed' piece x p given = record {
  before = x.before;
  out = x.out ++ p.out;
  begun = x.begun;
  began = x.began;
  prefix = bytes ++ piece;
  more = [];
  last = r';
  parts = sym (append-nil (bytes ++ piece));
  read = rw (sym (append_assoc x.before x.out p.out)) p.read;
  rest = now''.text;
  text = given ∙ text_on origin now now' r r' count earlier bytes passed piece x p;
}

-- what is to be told stands at its beginning
pub tells_anew : (origin now origin' : Traced) (r : State) (count : ℕ) (earlier bytes passed : List ℕ) → Tells origin now r count earlier bytes passed → Tells origin' origin' r count bytes bytes []
tells_anew origin now origin' r count earlier bytes passed x = record {
  before = x.before ++ x.out;
  out = [];
  begun = r;
  began = x.read;
  read = rw (append-nil (x.before ++ x.out)) x.read;
  counted = x.counted;
  text = sym (append-nil origin'.text);
  kept = refl;
  later = omega arith;
  waits = λ e. refl;
}

-- the same of what is known to exist
pub tells_marked : (lack : Option Lack) (origin now origin' now' : Traced) (r : State) (count : ℕ) (earlier bytes passed earlier' passed' : List ℕ) → lack ≡ None
    → ∥ TellsBy lack origin now r count earlier bytes passed ∥₁ → origin' ≡ now' → earlier' ≡ bytes → passed' ≡ [] → ∥ TellsBy lack origin' now' r count earlier' bytes passed' ∥₁
tells_marked None origin now origin' now' r count earlier bytes passed earlier' passed' e x o a p =
    ∥∥₁_map x (λ (y : Tells origin now r count earlier bytes passed). rw (o, a, p) (tells_anew origin now now' r count earlier bytes passed y))
tells_marked (Some lack) origin now origin' now' r count earlier bytes passed earlier' passed' e x o a p = absurd cc

-- it was to be passed on, and the sink failed
pub told_marked : (lack : Option Lack) (origin now origin' now' : Traced) (r : State) (count : ℕ) (earlier bytes passed earlier' begun passed' : List ℕ) → lack ≡ None
    → ∥ TellsBy lack origin now r count earlier bytes passed ∥₁ → origin' ≡ now' → earlier' ≡ bytes → begun ≡ [] → passed' ≡ begun ++ now'.text → ∥ ToldPart origin' earlier' bytes passed' ∥₁
told_marked None origin now origin' now' r count earlier bytes passed earlier' begun passed' e x o a b p =
    ∥∥₁_map x (λ (y : Tells origin now r count earlier bytes passed). record {
      before = y.before ++ y.out;
      out = [];
      begun = r;
      began = rw a y.read;
      prefix = bytes;
      more = [];
      last = r;
      parts = sym (append-nil bytes);
      read = rw (append-nil (y.before ++ y.out)) y.read;
      rest = [];
      text = ap (λ (l : List ℕ). l ++ []) (p ∙ ap (λ (l : List ℕ). l ++ now'.text) b ∙ sym (ap (λ (t : Traced). t.text) o));
    })
told_marked (Some lack) origin now origin' now' r count earlier bytes passed earlier' begun passed' e x o a b p = absurd cc

-- nothing was read
pub tells_first : (origin now : Traced) (r : State) (earlier bytes passed : List ℕ) → HasRead [] [] r → origin ≡ now → earlier ≡ [] → bytes ≡ [] → passed ≡ []
    → ∥ TellsBy None origin now r 0 earlier bytes passed ∥₁
tells_first origin now r earlier bytes passed h o a b p =
    let first : Tells now now r 0 [] [] [] = record {
      before = [];
      out = [];
      begun = r;
      began = h;
      read = h;
      counted = refl;
      text = sym (append-nil now.text);
      kept = refl;
      later = omega arith;
      waits = λ e. refl;
    } in
    rw (o, a, b, p) (∣ first ∣₁)

-- ---- a piece more

-- a piece more was read, or not
pub tells_after : (lack result : Option Lack) (origin now now' : Traced) (r r' : State) (count count' : ℕ) (earlier bytes bytes' passed passed' piece : List ℕ) → lack ≡ None
    → ∥ TellsBy lack origin now r count earlier bytes passed ∥₁
    → (Tells origin now r count earlier bytes passed → TellsBy result origin now' r' count' earlier (bytes ++ piece) passed') → bytes' ≡ bytes ++ piece
    → ∥ TellsBy result origin now' r' count' earlier bytes' passed' ∥₁
tells_after None result origin now now' r r' count count' earlier bytes bytes' passed passed' piece e x f b = rw b (∥∥₁_map x f)
tells_after (Some lack) result origin now now' r r' count count' earlier bytes bytes' passed passed' piece e x f b = absurd cc

pub none_lacks : (lack : Option Lack) → is_some lack ≡ false → lack ≡ None
none_lacks None e = refl
none_lacks (Some lack) e = absurd cc

pub some_length : (n : ℕ) → (n == 0) ≡ false → 0 < n
some_length n e = above n (eqb-false n 0 e)
  where
    above : (m : ℕ) → (m ≡ 0 → ⊥) → 0 < m
    above zero none = absurd (none refl)
    above (suc m) none = omega arith
