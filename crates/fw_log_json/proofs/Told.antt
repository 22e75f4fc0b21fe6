-- Two texts tell what was written: whatever follows them, as long as no digit follows at once, they are equal only if that is equal.
use Rattle.fw_log_json.proofs.Common.{◌≡◌, ℕ, ◌+◌, ◌<◌, ◌^◌, ◌&&◌, Bool, true, false, List, [], ◌∷◌, ◌++◌}
use Rattle.fw_log_json.proofs.Common.{length, decimal, Option, refl, ap, sym, ◌∙◌, subst, append_assoc, arith, nat_tests, field, code}
use Rattle.fw_log_json.proofs.Common.{name_value}
use Rattle.std.proofs.Common.{◌%◌, nat_le, not}
use Rattle.std.proofs.lemmas.Bool.{false≢true}
use Rattle.std.proofs.lemmas.Fmt.{decimal_by_steps, decimal_nonempty, decimal_injective}
use Rattle.std.proofs.lemmas.List.{append_cancel_left}

abbrev is_digit : ℕ → Bool
is_digit b = nat_le 48 b && nat_le b 57

-- no digit is first
abbrev pub stops : List ℕ → Bool
stops [] = true
stops (b ∷ bs) = not (is_digit b)

-- no digit is first of the text and what follows
pub record Stops (a : List ℕ) : Type 0 where
  pub by : (r : List ℕ) → stops r ≡ true → stops (a ++ r) ≡ true

-- the two texts are values, and tell this
pub record Value (a b : List ℕ) (P : Type 0) : Type 0 where
  pub by : (r s : List ℕ) → stops r ≡ true → stops s ≡ true → a ++ r ≡ b ++ s → P × (r ≡ s)

-- the two texts are fields, and tell this
pub record Told (a b : List ℕ) (P : Type 0) : Type 0 where
  pub value : Value a b P
  pub first : Stops a
  pub second : Stops b

-- the first bytes of two texts that are the same
pub first_byte : {x y : ℕ} {a b : List ℕ} → x ∷ a ≡ y ∷ b → x ≡ y
first_byte e = cc e

-- ---- fields in a row

both : (a c : List ℕ) → Stops a → Stops c → Stops (a ++ c)
both a c x y = record { by = λ r h. subst (λ (t : List ℕ). stops t ≡ true) (sym (append_assoc a c r)) (x.by (c ++ r) (y.by r h)) }

-- what follows depends on what was told
pub knowing : {a b c d : List ℕ} {P Q : Type 0} → Told a b P → Stops c → Stops d → (P → Value c d Q) → Told (a ++ c) (b ++ d) (P × Q)
knowing {a} {b} {c} {d} t x y u = record {
  value = record {
    by = λ r s h k e.
        let f = t.value.by (c ++ r) (d ++ s) (x.by r h) (y.by s k) (sym (append_assoc a c r) ∙ e ∙ append_assoc b d s) in
        let g = (u f.0).by r s h k f.1 in ((f.0, g.0), g.1);
  };
  first = both a c t.first x;
  second = both b d t.second y;
}

pub next : {a b c d : List ℕ} {P Q : Type 0} → Told a b P → Told c d Q → Told (a ++ c) (b ++ d) (P × Q)
next t u = knowing t u.first u.second (λ _. u.value)

-- what is told means this
pub means : {a b : List ℕ} {P Q : Type 0} → Told a b P → (P → Q) → Told a b Q
means t f = record {
  value = record { by = λ r s h k e. let g = t.value.by r s h k e in (f g.0, g.1) };
  first = t.first;
  second = t.second;
}

-- one text tells nothing
pub one_text : {a b : List ℕ} → a ≡ b → Value a b (Unit {0})
one_text {a} {b} e = record { by = λ r s h k f. (tt, append_cancel_left a r s (f ∙ ap (λ (t : List ℕ). t ++ s) (sym e))) }

pub nothing : Told [] [] (Unit {0})
nothing = record { value = one_text refl; first = record { by = λ r h. h }; second = record { by = λ r h. h } }

-- ---- numbers

abbrev all_digits : List ℕ → Bool
all_digits [] = true
all_digits (b ∷ bs) = is_digit b && all_digits bs

pub both_left : (a b : Bool) → (a && b) ≡ true → a ≡ true
both_left true b e = refl
both_left false b e = absurd (false≢true e)

pub both_right : (a b : Bool) → (a && b) ≡ true → b ≡ true
both_right true b e = e
both_right false b e = absurd (false≢true e)

clash : (d : Bool) → d ≡ true → not d ≡ true → ⊥
clash true e f = false≢true f
clash false e f = false≢true e

split : (a b r s : List ℕ) → all_digits a ≡ true → all_digits b ≡ true → stops r ≡ true → stops s ≡ true → a ++ r ≡ b ++ s → (a ≡ b) × (r ≡ s)
split [] [] r s da db h k e = (refl, e)
split [] (y ∷ b) r s da db h k e =
    absurd (clash (is_digit y) (both_left (is_digit y) (all_digits b) db) (subst (λ (t : List ℕ). stops t ≡ true) e h))
split (x ∷ a) [] r s da db h k e =
    absurd (clash (is_digit x) (both_left (is_digit x) (all_digits a) da) (subst (λ (t : List ℕ). stops t ≡ true) (sym e) k))
split (x ∷ a) (y ∷ b) r s da db h k e =
    let first : x ≡ y = cc e in
    let rest : a ++ r ≡ b ++ s = cc e in
    let f = split a b r s (both_right (is_digit x) (all_digits a) da) (both_right (is_digit y) (all_digits b) db) h k rest in
    let same : a ≡ b = f.0 in
    (cc (first, same), f.1)

digit : (n : ℕ) → n < 10 → is_digit (48 + n) ≡ true
digit n h = grind (arith, nat_tests)

push : (ds : List ℕ) (d : ℕ) → all_digits ds ≡ true → is_digit d ≡ true → all_digits (ds ++ d ∷ []) ≡ true
push [] d e f = rw (all_digits, f) refl
push (x ∷ ds) d e f =
    let one : is_digit x ≡ true = both_left (is_digit x) (all_digits ds) e in
    let more : all_digits (ds ++ d ∷ []) ≡ true = push ds d (both_right (is_digit x) (all_digits ds) e) f in
    rw (all_digits, one, more) refl

digits : (n : ℕ) → n < 2 ^ 64 → all_digits (decimal n) ≡ true
digits n h =
    decimal_by_steps (λ m ds. all_digits ds ≡ true) (λ m k. push [] (48 + m) refl (digit m k))
    (λ m ds k e. push ds (48 + m % 10) e (digit (m % 10) (omega arith))) n h

pub number : (m n : ℕ) → m < 2 ^ 64 → n < 2 ^ 64 → Value (decimal m) (decimal n) (m ≡ n)
number m n a b = record {
  by = λ r s h k e.
      let f = split (decimal m) (decimal n) r s (digits m a) (digits n b) h k e in (decimal_injective m n a b f.0, f.1);
}

-- what begins with no digit is not a number
pub no_number : (n : ℕ) → n < 2 ^ 64 → (r s : List ℕ) → stops r ≡ true → stops s ≡ true → decimal n ++ r ≡ s → ⊥
no_number n a r s h k e =
    let f = split (decimal n) [] r s (digits n a) refl h k e in
    let none : length (decimal n) ≡ 0 = ap length f.0 in
    omega (arith, decimal_nonempty n a)

-- ---- a value under its key

under : {a b : List ℕ} {P : Type 0} (key : List ℕ) → Value a b P → Value (field key a) (field key b) P
unfolding field
under {a} {b} key v = record {
  by = λ r s h k e. v.by r s h k (append_cancel_left key (a ++ r) (b ++ s) (sym (append_assoc key a r) ∙ e ∙ append_assoc key b s));
}

pub comma_first : (key value : List ℕ) → Stops (field (44 ∷ key) value)
unfolding field
comma_first key value = record { by = λ r h. refl }

pub comma_then : (key value rest : List ℕ) → Stops (field (44 ∷ key) value ++ rest)
unfolding field
comma_then key value rest = record { by = λ r h. refl }

brace_first : (key value : List ℕ) → Stops (field (123 ∷ key) value)
unfolding field
brace_first key value = record { by = λ r h. refl }

-- a field after others
pub comma : {a b : List ℕ} {P : Type 0} (key : List ℕ) → Value a b P → Told (field (44 ∷ key) a) (field (44 ∷ key) b) P
comma {a} {b} key v = record { value = under (44 ∷ key) v; first = comma_first key a; second = comma_first key b }

-- the first field
pub brace : {a b : List ℕ} {P : Type 0} (key : List ℕ) → Value a b P → Told (field (123 ∷ key) a) (field (123 ∷ key) b) P
brace {a} {b} key v = record { value = under (123 ∷ key) v; first = brace_first key a; second = brace_first key b }

-- ---- a code and its name

pub code_first : (key : List ℕ) (n : ℕ) (name_key : List ℕ) (name : Option (List ℕ)) → Stops (code (44 ∷ key) n name_key name)
unfolding code field
code_first key n name_key name = record { by = λ r h. refl }

-- a code tells its number, whatever its name
pub coded : (key : List ℕ) (name_key : List ℕ) (table : ℕ → Option (List ℕ)) (m n : ℕ) → m < 2 ^ 64 → n < 2 ^ 64
    → Told (code (44 ∷ key) m (44 ∷ name_key) (table m)) (code (44 ∷ key) n (44 ∷ name_key) (table n)) (m ≡ n)
unfolding code
coded key name_key table m n a b =
    means (knowing (comma key (number m n a b)) (comma_first name_key (name_value (table m))) (comma_first name_key (name_value (table n)))
    (λ e. (comma name_key (one_text {a = name_value (table m)} {b = name_value (table n)} (ap (λ (k : ℕ). name_value (table k)) e))).value)) (λ p. p.0)

-- ---- texts that differ, whatever follows them

pub record Differ (a b : List ℕ) : Type 0 where
  pub by : (r s : List ℕ) → a ++ r ≡ b ++ s → ⊥

pub left : {a b : List ℕ} (c : List ℕ) → Differ a b → Differ (a ++ c) b
left {a} {b} c d = record { by = λ r s e. d.by (c ++ r) s (sym (append_assoc a c r) ∙ e) }

pub right : {a b : List ℕ} (c : List ℕ) → Differ a b → Differ a (b ++ c)
right {a} {b} c d = record { by = λ r s e. d.by r (c ++ s) (e ∙ append_assoc b c s) }

pub differ : {a b : List ℕ} {P : Type 0} → Differ a b → Value a b P
differ d = record { by = λ r s h k e. absurd (d.by r s e) }

pub comma_any : (key value r : List ℕ) → stops (field (44 ∷ key) value ++ r) ≡ true
unfolding field
comma_any key value r = refl

-- two codes that differ under one key
pub codes_differ : (key name_key : List ℕ) (m n : ℕ) (name other : Option (List ℕ)) → m < 2 ^ 64 → n < 2 ^ 64 → (m ≡ n → ⊥)
    → Differ (code (44 ∷ key) m (44 ∷ name_key) name) (code (44 ∷ key) n (44 ∷ name_key) other)
unfolding code
codes_differ key name_key m n name other a b apart = record {
  by = λ r s e.
      let x : List ℕ = field (44 ∷ name_key) (name_value name) in
      let y : List ℕ = field (44 ∷ name_key) (name_value other) in
      let first = sym (append_assoc (field (44 ∷ key) (decimal m)) x r) ∙ e ∙ append_assoc (field (44 ∷ key) (decimal n)) y s in
      apart ((comma key (number m n a b)).value.by (x ++ r) (y ++ s) (comma_any name_key (name_value name) r) (comma_any name_key (name_value other) s) first).0;
}

-- a code that is known tells nothing
pub known : (key : List ℕ) (n : ℕ) (name_key : List ℕ) (name : Option (List ℕ)) → Told (code (44 ∷ key) n name_key name) (code (44 ∷ key) n name_key name) (Unit {0})
known key n name_key name = record { value = one_text refl; first = code_first key n name_key name; second = code_first key n name_key name }

-- ---- the end of an object

pub closing : Told (125 ∷ []) (125 ∷ []) (Unit {0})
closing = record { value = one_text refl; first = record { by = λ r h. refl }; second = record { by = λ r h. refl } }
