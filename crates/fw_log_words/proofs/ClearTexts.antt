-- Texts of printable bytes without `<`: numbers, digits, and how a word or a log ended.
use Rattle.std.proofs.Common.{◌≡◌, ◌≢◌, ℕ, zero, suc, ◌+◌, ◌/◌, ◌%◌, ◌<◌, ◌≤◌, ◌==◌, ◌&&◌, not, nat_le, nat_lt, Bool, true, false, cond, List, [], ◌∷◌, ◌++◌, length, slice_index, codes, decimal, arith, refl, ap, sym, subst, ◌∙◌}
use Rattle.std.proofs.lemmas.Bool.Decides.{nat_tests}
use Rattle.std.specs.Fmt.{digit_glyph, digits_onto, digits}
use Rattle.fw_text.specs.Texts.{hex, quadlet_text}
use Rattle.fw_model_audit.specs.declared.fault.AuditFault.{AuditFault}
use Rattle.fw_model_audit.specs.declared.fault.AuditFault.TheVariants.{NoNode, Overlap, Orphan, NotAllowed, WrongWord, NoMove, NoEvent}
use Rattle.fw_audit.specs.Unjudged.{unjudged_text}
use Rattle.fw_log_reports.specs.Unsounds.{fault_of, values_of, unsound_text}
use Rattle.fw_log_reports.specs.declared.refusal.Unsound.{Unsound}
use Rattle.fw_page.proofs.MarkLaws.{NoFeed}

abbrev pub clear_byte : ℕ → Bool
clear_byte b = nat_le 32 b && nat_lt b 127 && not (b == 60)

abbrev pub clear : List ℕ → Bool
clear [] = true
clear (b ∷ bs) = clear_byte b && clear bs

-- each byte is printable and no `<`
pub record Clear (bs : List ℕ) : Type 0 where
  pub is : clear bs ≡ true

left : (a b : Bool) → (a && b) ≡ true → a ≡ true
left true b e = refl
left false b e = absurd (cc e)

right : (a b : Bool) → (a && b) ≡ true → b ≡ true
right true b e = e
right false b e = absurd (cc e)

both : (a b : Bool) → a ≡ true → b ≡ true → (a && b) ≡ true
both a b e f = rw (e, f) refl

joined : (xs ys : List ℕ) → clear xs ≡ true → clear ys ≡ true → clear (xs ++ ys) ≡ true
joined [] ys e f = f
joined (x ∷ xs) ys e f = both (clear_byte x) (clear (xs ++ ys)) (left (clear_byte x) (clear xs) e) (joined xs ys (right (clear_byte x) (clear xs) e) f)

pub two : {xs ys : List ℕ} → Clear xs → Clear ys → Clear (xs ++ ys)
two {xs} {ys} a b = record { is = joined xs ys a.is b.is }

-- words are: a test tells
pub word : (bs : List ℕ) → clear bs ≡ true → Clear bs
word bs e = record { is = e }

no_feed_byte : (b : ℕ) → clear_byte b ≡ true → b ≢ 10
no_feed_byte b e f = absurd (grind (arith, nat_tests))

pub no_feed : (bs : List ℕ) → clear bs ≡ true → NoFeed bs
no_feed [] e i low = absurd (omega (arith, low))
no_feed (b ∷ bs) e zero low = no_feed_byte b (left (clear_byte b) (clear bs) e)
no_feed (b ∷ bs) e (suc i) low = no_feed bs (right (clear_byte b) (clear bs) e) i (omega (arith, low))

-- ---- numbers

glyph : (d : ℕ) → d < 16 → clear_byte (digit_glyph false d) ≡ true
glyph d low = grind (arith, nat_tests)

some_digits : (k n : ℕ) (bs : List ℕ) → clear bs ≡ true → clear (digits_onto k 10 false n bs) ≡ true
some_digits zero n bs e = e
some_digits (suc k) n bs e = go (n / 10 == 0) (some_digits k (n / 10) (digit_glyph false (n % 10) ∷ bs) one)
  where
    one : clear (digit_glyph false (n % 10) ∷ bs) ≡ true
    one = both (clear_byte (digit_glyph false (n % 10))) (clear bs) (glyph (n % 10) (omega arith)) e

    go : (t : Bool) → clear (digits_onto k 10 false (n / 10) (digit_glyph false (n % 10) ∷ bs)) ≡ true
        → clear (cond t (digit_glyph false (n % 10) ∷ bs) (digits_onto k 10 false (n / 10) (digit_glyph false (n % 10) ∷ bs))) ≡ true
    go true later = one
    go false later = later

pub number : (n : ℕ) → Clear (decimal n)
unfolding digits
number n = record { is = some_digits 64 n [] refl }

pub hexadecimal : (k n : ℕ) → Clear (hex k n)
unfolding hex
hexadecimal zero n = word [] refl
hexadecimal (suc k) n = two (hexadecimal k (n / 16)) (word (digit_glyph false (n % 16) ∷ []) (both (clear_byte (digit_glyph false (n % 16))) true (glyph (n % 16) (omega arith)) refl))

quadlet : (n : ℕ) → Clear (quadlet_text n)
quadlet n = two (word (codes " ") refl) (hexadecimal 8 n)

-- ---- what `holders` stops with

name_clear : (f : AuditFault) → Clear (fault_of f)
name_clear (NoNode id) = word _ refl
name_clear (Overlap id) = word _ refl
name_clear (Orphan id) = word _ refl
name_clear (NotAllowed id offset) = word _ refl
name_clear (WrongWord found expected) = word _ refl
name_clear (NoMove old value) = word _ refl
name_clear (NoEvent code) = word _ refl

values_clear : (f : AuditFault) → Clear (values_of f)
values_clear (NoNode id) = quadlet id
values_clear (Overlap id) = quadlet id
values_clear (Orphan id) = quadlet id
values_clear (NotAllowed id offset) = two (quadlet id) (quadlet offset)
values_clear (WrongWord found expected) = two (quadlet found) (quadlet expected)
values_clear (NoMove old value) = two (quadlet old) (quadlet value)
values_clear (NoEvent code) = quadlet code

locks : (t : Bool) → Clear (cond t (codes " lock") (codes " locks"))
locks true = word _ refl
locks false = word _ refl

unjudged_clear : (n : ℕ) → Clear (unjudged_text n)
unfolding unjudged_text
unjudged_clear n = go (n == 0)
  where
    go : (t : Bool) → Clear (cond t [] (codes ", not judged " ++ decimal n ++ cond (n == 1) (codes " lock") (codes " locks") ++ codes " with labels other than 0"))
    go true = word [] refl
    go false = two (two (two (word (codes ", not judged ") refl) (number n)) (locks (n == 1))) (word (codes " with labels other than 0") refl)

pub unsound_clear : (u : Unsound) → Clear (unsound_text u)
unsound_clear u = two (two (two (two (word (codes "entry ") refl) (number u.entry)) (name_clear u.fault)) (values_clear u.fault)) (unjudged_clear u.unjudged)
