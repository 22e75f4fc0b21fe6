-- Texts of one line: what is told of events, outcomes and shown words.
use Rattle.fw_explore_laws.proofs.Common.{ℕ, zero, suc, ◌≡◌, ◌+◌, ◌<◌, ◌==◌, not, List, [], ◌∷◌, ◌++◌, Bool, true, false, Option, Some, None, codes, decimal, if◌then◌else◌, refl, subst, arith}
use Rattle.fw_explore_laws.proofs.Common.{list_all, and_parts, nat_tests, same_Some}
use Rattle.std.proofs.Common.{◌/◌, ◌%◌, ◌||◌, map, nat_lt}
use Rattle.std.specs.Fmt.{digit_glyph}
use Rattle.fw_log_entry.specs.Rows.{event_form, has_tape}
use Rattle.fw_log_entry.specs.declared.codes.TheConstants.{NO_DEVICE}
use Rattle.fw_log_entry.specs.declared.codes.outcome.TheConstants as Outcomes
use Rattle.fw_log_entry.specs.declared.entry.EventEntry.{EventEntry}
use Rattle.fw_log_entry.specs.declared.entry.OutcomeEntry.{OutcomeEntry}
use Rattle.fw_log_explain.specs.Lines.{device_text, ended_text, event_text, outcome_text, rcode_text, saying_text, slot_text, tape_text, value_text}
use Rattle.fw_log_names.specs.Names.{event_saying, rcode_name, system_name}
use Rattle.fw_log_names.specs.declared.entries.TheConstants.{EVENTS, OUTCOMES, SYSTEMS}
use Rattle.fw_text.specs.Names.{name_in, rows}
use Rattle.fw_text.specs.Texts.{hex, named, quadlet_text}
use Rattle.fw_explore_laws.proofs.Lines.{is_one_line}
use Rattle.fw_explore_laws.proofs.Words.{both_true, one_more}
use Rattle.fw_explore_laws.proofs.Decimals.{decimal_all}

-- ---- texts, one after another

pub record IsOneLine (text : List ℕ) : Type 0 where
  pub is : is_one_line text ≡ true

pub lit : (text : List ℕ) → is_one_line text ≡ true → IsOneLine text
lit text is = record { is = is }

pub none : IsOneLine []
none = record { is = refl }

pub more : {a b : List ℕ} → IsOneLine a → IsOneLine b → IsOneLine (a ++ b)
more {a = a} {b = b} p q = record { is = one_more a b p.is q.is }

pub if_one : {a b : List ℕ} (c : Bool) → IsOneLine a → IsOneLine b → IsOneLine (if c then a else b)
if_one true p q = p
if_one false p q = q

digit_one : (d : ℕ) → d < 10 → not (48 + d == 10) ≡ true
digit_one d low = grind (arith, nat_tests)

pub number : (n : ℕ) → IsOneLine (decimal n)
number n = record { is = decimal_all (λ b. not (b == 10)) digit_one n }

glyph_one : (d : ℕ) → not (digit_glyph false d == 10) ≡ true
glyph_one d = go (nat_lt d 10)
  where
    go : (b : Bool) → not ((if b then 48 + d else 87 + d) == 10) ≡ true
    go true = grind (arith, nat_tests)
    go false = grind (arith, nat_tests)

pub hex_one : (k n : ℕ) → IsOneLine (hex k n)
unfolding hex
hex_one zero n = none
hex_one (suc k) n = more (hex_one k (n / 16)) (record { is = both_true (glyph_one (n % 16)) refl })

pub quadlet_one : (q : ℕ) → IsOneLine (quadlet_text q)
quadlet_one q = more (lit (codes " ") refl) (hex_one 8 q)

-- ---- names of tables

pub record AreOneLine (o : Option (List ℕ)) : Type 0 where
  pub so : (name : List ℕ) → o ≡ Some name → IsOneLine name

pub some_name : (text : List ℕ) → is_one_line text ≡ true → AreOneLine (Some text)
some_name text is = record { so = λ name e. subst IsOneLine (same_Some text name e) (lit text is) }

pub no_name : AreOneLine None
no_name = record { so = λ name e. absurd cc }

pub if_name : {a b : Option (List ℕ)} (c : Bool) → AreOneLine a → AreOneLine b → AreOneLine (if c then a else b)
if_name true p q = p
if_name false p q = q

pub named_one : {o : Option (List ℕ)} {other : List ℕ} (n : ℕ) → AreOneLine o → IsOneLine other → IsOneLine (named o other n)
named_one {o = None} n names p = more (more p (lit (codes " ") refl)) (number n)
named_one {o = Some name} n names p = names.so name refl

pub names_one : (table : List (ℕ × List ℕ)) (code : ℕ) → list_all (λ (r : ℕ × List ℕ). is_one_line r.1) table ≡ true → AreOneLine (name_in table code)
names_one [] code all = no_name
names_one (r ∷ table) code all =
    let parts = and_parts (is_one_line r.1) (list_all (λ (s : ℕ × List ℕ). is_one_line s.1) table) all in
    if_name (code == r.0) (some_name r.1 parts.0) (names_one table code parts.1)

pub rcode_one : (rcode : ℕ) → AreOneLine (rcode_name rcode)
rcode_one rcode =
    if_name (rcode == 0) (some_name (codes "complete") refl) (if_name (rcode == 4) (some_name (codes "conflict_error") refl)
    (if_name (rcode == 5) (some_name (codes "data_error") refl) (if_name (rcode == 6) (some_name (codes "type_error") refl)
    (if_name (rcode == 7) (some_name (codes "address_error") refl) no_name))))

system_one : (system : ℕ) → AreOneLine (system_name system)
system_one system = names_one (rows SYSTEMS) system refl

-- ---- entries

saying_one : (o : Option (List ℕ)) → AreOneLine o → IsOneLine (saying_text o)
unfolding saying_text
saying_one None names = none
saying_one (Some saying) names = names.so saying refl

pub event_one : (e : EventEntry) → IsOneLine (event_text e)
unfolding event_text device_text tape_text
event_one e =
    more (more (more (more (more (lit (codes "event ") refl) (named_one e.code (names_one (map (λ r. (r.0, r.1.now)) EVENTS) e.code refl) (lit (codes "code") refl)))
    (if_one (e.device == NO_DEVICE) none (more (lit (codes " device ") refl) (number e.device)))) (lit (codes ": ") refl))
    (saying_one (event_saying e.code) (names_one (map (λ r. (r.0, r.2.now)) EVENTS) e.code refl)))
    (if_one (has_tape (event_form e.code)) (more (more (more (lit (codes " tape ") refl) (number e.tape)) (lit (codes ", system ") refl))
    (named_one e.system (system_one e.system) (lit (codes "lines") refl))) none)

value_one : (code value : ℕ) → IsOneLine (value_text code value)
unfolding value_text rcode_text
value_one code value =
    if_one ((code == Outcomes.CONNECTED) || (code == Outcomes.RESTORED)) (more (lit (codes ", channel ") refl) (number value))
    (if_one (code == Outcomes.NO_CHANNEL) (more (lit (codes ", CHANNELS_AVAILABLE") refl) (quadlet_one value))
    (if_one (code == Outcomes.NO_UNITS) (more (lit (codes ", units left ") refl) (number value))
    (if_one ((code == Outcomes.PLUG_FULL) || (code == Outcomes.INPUT_BUSY)) (more (lit (codes ", plug word") refl) (quadlet_one value))
    (if_one (code == Outcomes.NO_PLUG) (more (lit (codes ", answer") refl) (more (lit (codes " ") refl) (named_one value (rcode_one value) (lit (codes "rcode") refl))))
    (if_one (code == Outcomes.ABSENT) (more (lit (codes ", missing device ") refl) (number value))
    (if_one (code == Outcomes.RESET) (more (lit (codes ", epoch ") refl) (number value))
    (if_one (code == Outcomes.LATE) (more (lit (codes ", at cycle ") refl) (number value)) none)))))))

pub outcome_one : (o : OutcomeEntry) → IsOneLine (outcome_text o)
unfolding outcome_text ended_text slot_text
outcome_one o =
    more (more (more (lit (codes "outcome ") refl) (named_one o.code (names_one (rows OUTCOMES) o.code refl) (lit (codes "code") refl)))
    (more (more (more (lit (codes " device ") refl) (number o.device)) (lit (codes " slot ") refl)) (number o.slot)))
    (value_one o.code o.value)
