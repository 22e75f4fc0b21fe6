-- The text of entries, one after another, after what is due of the header.
use Rattle.std.proofs.Common.{◌≡◌, ℕ, ◌≤◌, List, [], ◌∷◌, ◌++◌, ◌<◌, length, nat_le, Bool, true, false, if◌then◌else◌, Option, arith, refl, ap, sym, subst, ◌∙◌, append_assoc, length-append}
use Rattle.std.proofs.lemmas.List.{append-nil}
use Rattle.std.proofs.lemmas.Bool.Decides.{nat_tests}
use Rattle.fw_outside.specs.Outside.{Grows, AppendsPrefix}
use Rattle.fw_outside.proofs.Parts.{Grows-nothing, Grows-Grows, then_prefix, prefix_then}
use Rattle.fw_log_entry.specs.Log.{header_bytes, epoch_after, entry_bytes, entries_bytes}
use Rattle.fw_log_entry.specs.declared.version.Version.{Version}
use Rattle.fw_log_entry.specs.declared.entry.Timed.{Timed}
use Rattle.fw_log.specs.History.{bytes_of}
use Rattle.fw_log_loop.specs.Readings.{Text, IsEach}
use Rattle.fw_log_loop.specs.Endings.{opened}
use Rattle.fw_log_loop.specs.Pieces.{opening}

pub nothing_grew : {text : Text} (e : IsEach text) (xs : List Timed) (held : Option (List ℕ)) → Grows held held (text xs [])
nothing_grew e xs held = let P : List ℕ → Type 0 = Grows held held in subst P (sym (e.none xs)) (Grows-nothing held)

-- the header, and the entries after it
due_by : {text : Text} (e : IsEach text) (head : List ℕ) (entries more : List Timed) (b c : Bool) → (b ≡ true → c ≡ true) → (b ≡ false → entries ≡ [])
    → ((if b then head else []) ++ text [] entries) ++ ((if b then [] else if c then head else []) ++ text entries more) ≡ (if c then head else []) ++ text [] (entries ++ more)
due_by {text} e head entries more true c on none =
    append_assoc head (text [] entries) (text entries more) ∙ ap (λ (x : List ℕ). head ++ x) (sym (e.more [] entries more))
    ∙ ap (λ (z : Bool). (if z then head else []) ++ text [] (entries ++ more)) (sym (on refl))
due_by {text} e head entries more false c on none =
    let is : entries ≡ [] = none refl in
    let x : List ℕ = if c then head else [] in
    ap (λ (es : List Timed). text [] es ++ (x ++ text es more)) is
    ∙ (ap (λ (y : List ℕ). y ++ (x ++ text [] more)) (e.none []) ∙ ap (λ (es : List Timed). x ++ text [] (es ++ more)) (sym is))

pub due_more : {text : Text} (e : IsEach text) (head : List ℕ) (entries more : List Timed) (before now : ℕ) → (16 ≤ before → 16 ≤ now) → (before < 16 → entries ≡ [])
    → (opened head before ++ text [] entries) ++ (opening head before now ++ text entries more) ≡ opened head now ++ text [] (entries ++ more)
due_more e head entries more before now on none = due_by e head entries more (nat_le 16 before) (nat_le 16 now) (λ h. le_true now (on (true_le before h))) (λ h. none (false_lt before h))
  where
    true_le : (n : ℕ) → nat_le 16 n ≡ true → 16 ≤ n
    true_le n h = grind (arith, nat_tests)

    le_true : (n : ℕ) → 16 ≤ n → nat_le 16 n ≡ true
    le_true n h = grind (arith, nat_tests)

    false_lt : (n : ℕ) → nat_le 16 n ≡ false → n < 16
    false_lt n h = grind (arith, nat_tests)

-- a header that is whole
pub opened_is : (head : List ℕ) (count : ℕ) → 16 ≤ count → opened head count ≡ head
opened_is head count whole = by (nat_le 16 count) (le_true count whole)
  where
    le_true : (n : ℕ) → 16 ≤ n → nat_le 16 n ≡ true
    le_true n h = grind (arith, nat_tests)

    by : (b : Bool) → b ≡ true → (if b then head else []) ≡ head
    by true e = refl
    by false e = cc e

pub grows_due : {text : Text} (e : IsEach text) (head : List ℕ) (entries more : List Timed) (before now : ℕ) (held mid new : Option (List ℕ)) → (16 ≤ before → 16 ≤ now) → (before < 16 → entries ≡ [])
    → Grows held mid (opened head before ++ text [] entries) → Grows mid new (opening head before now ++ text entries more) → Grows held new (opened head now ++ text [] (entries ++ more))
grows_due {text} e head entries more before now held mid new on none a b =
    let P : List ℕ → Type 0 = Grows held new in
    subst P (due_more e head entries more before now on none) (Grows-Grows held mid new (opened head before ++ text [] entries) (opening head before now ++ text entries more) a b)

pub prefix_due : {text : Text} (e : IsEach text) (head : List ℕ) (entries more : List Timed) (before now : ℕ) (held mid new : Option (List ℕ)) → (16 ≤ before → 16 ≤ now) → (before < 16 → entries ≡ [])
    → Grows held mid (opened head before ++ text [] entries) → AppendsPrefix mid new (opening head before now ++ text entries more)
    → AppendsPrefix held new (opened head now ++ text [] (entries ++ more))
prefix_due {text} e head entries more before now held mid new on none a b =
    let P : List ℕ → Type 0 = AppendsPrefix held new in
    subst P (due_more e head entries more before now on none) (then_prefix held mid new (opened head before ++ text [] entries) (opening head before now ++ text entries more) a b)

-- the same if more bytes were taken: a header that they make whole is due too, and then there are no entries yet
pub prefix_later : {text : Text} (e : IsEach text) (head : List ℕ) (entries : List Timed) (now later : ℕ) (held new : Option (List ℕ)) → now ≤ later → (now < 16 → entries ≡ [])
    → AppendsPrefix held new (opened head now ++ text [] entries) → AppendsPrefix held new (opened head later ++ text [] entries)
prefix_later {text} e head entries now later held new less none a = by (nat_le 16 now) (nat_le 16 later) (λ h. le_true later (omega (arith, less, true_le now h))) (λ h. none (false_lt now h)) a
  where
    true_le : (n : ℕ) → nat_le 16 n ≡ true → 16 ≤ n
    true_le n h = grind (arith, nat_tests)

    le_true : (n : ℕ) → 16 ≤ n → nat_le 16 n ≡ true
    le_true n h = grind (arith, nat_tests)

    false_lt : (n : ℕ) → nat_le 16 n ≡ false → n < 16
    false_lt n h = grind (arith, nat_tests)

    by : (b c : Bool) → (b ≡ true → c ≡ true) → (b ≡ false → entries ≡ []) → AppendsPrefix held new ((if b then head else []) ++ text [] entries)
        → AppendsPrefix held new ((if c then head else []) ++ text [] entries)
    by true c on empty a = let P : Bool → Type 0 = λ z. AppendsPrefix held new ((if z then head else []) ++ text [] entries) in subst P (sym (on refl)) a
    by false c on empty a =
        let P : List ℕ → Type 0 = AppendsPrefix held new in
        prefix_then held new [] ((if c then head else []) ++ text [] entries) (subst P (ap (text []) (empty refl) ∙ e.none []) a)

pub prefix_of_all : (held held' : Option (List ℕ)) (xs : List ℕ) → Grows held held' xs → AppendsPrefix held held' xs
prefix_of_all held held' xs g = record { prefix = xs; rest = []; parts = sym (append-nil xs); appended = g }

pub prefix_of_none : (held : Option (List ℕ)) (xs : List ℕ) → AppendsPrefix held held xs
prefix_of_none held xs = record { prefix = []; rest = xs; parts = refl; appended = Grows-nothing held }

-- ---- how many entries a log has

pub length-bytes_of : (v : Version) (epoch : ℕ) (entries : List Timed) → length entries ≤ length (entries_bytes v epoch entries)
length-bytes_of v epoch [] = omega arith
length-bytes_of v epoch (t ∷ ts) =
    let n : ℕ = epoch_after epoch t.what in
    omega (arith, length-bytes_of v n ts, length-append (entry_bytes v n t) (entries_bytes v n ts))

pub few_by : (v : Version) (entries : List Timed) → length entries ≤ length (bytes_of v entries)
few_by v [] = omega arith
few_by v (t ∷ ts) = omega (arith, length-bytes_of v 0 (t ∷ ts), length-append (header_bytes v) (entries_bytes v 0 (t ∷ ts)))

-- before the header is whole there are none
pub none_before : (v : Version) (entries : List Timed) (part bytes : List ℕ) → bytes_of v entries ++ part ≡ bytes → length bytes < 16 → entries ≡ []
none_before v [] part bytes e short = refl
none_before v (t ∷ ts) part bytes e short =
    absurd (omega (arith, short, ap length e, length-append (bytes_of v (t ∷ ts)) part, length-append (header_bytes v) (entries_bytes v 0 (t ∷ ts))))
