-- What the words write of entries as they end, and that it is the text of each of them, one after another.
use Rattle.std.proofs.Common.{◌≡◌, ℕ, List, [], ◌∷◌, ◌++◌, refl, ap, sym, ◌∙◌, append_assoc}
use Rattle.std.proofs.lemmas.List.{append-nil}
use Rattle.fw_log_entry.specs.Log.{header_bytes, entries_bytes, latest_epoch}
use Rattle.fw_log_entry.specs.declared.version.Version.{Version}
use Rattle.fw_log_entry.specs.declared.entry.Timed.{Timed}
use Rattle.fw_log_entry.proofs.LogLaws.{entries_append, latest_append}
use Rattle.fw_log_explain.specs.Explained.{explained}
use Rattle.fw_log_explain.specs.Lines.{line}
use Rattle.fw_log_requests.specs.Requests.{standing}
use Rattle.fw_log_loop.specs.Readings.{Form, IsEach, bare_form}

-- entries that were gathered in a version, and the epoch of the latest reset up to there
pub record Rewritten : Type 0 where
  pub bytes : List ℕ
  pub version : Version
  pub epoch : ℕ

-- ---- a text of each entry, whatever stands before it

-- the texts of entries, one after another
abbrev pub all_of : (Timed → List ℕ) → List Timed → List ℕ
all_of text [] = []
all_of text (t ∷ ts) = text t ++ all_of text ts

-- the texts of entries as they end
abbrev pub each_form : (Timed → List ℕ) → Form
each_form text = bare_form [] (λ before more. all_of text more)

-- that of one entry is the text of the entry alone
pub all_of_one : (text : Timed → List ℕ) (t : Timed) → text t ≡ all_of text (t ∷ [])
all_of_one text t = sym (append-nil (text t))

all_of_none : (text : Timed → List ℕ) → all_of text [] ≡ []
all_of_none text = refl

all_of_more : (text : Timed → List ℕ) (xs ys : List Timed) → all_of text (xs ++ ys) ≡ all_of text xs ++ all_of text ys
all_of_more text [] ys = refl
all_of_more text (x ∷ xs) ys = ap (λ l. text x ++ l) (all_of_more text xs ys) ∙ sym (append_assoc (text x) (all_of text xs) (all_of text ys))

-- so what is written is the text of each of them
pub each_alone : (text : Timed → List ℕ) → IsEach ((each_form text).text)
each_alone text = record { none = λ xs. all_of_none text; more = λ xs ys zs. all_of_more text ys zs }

-- ---- entries in words

-- entries in words as they end, after these
abbrev pub explained_form : Form
explained_form = bare_form [] explained

explained_more : (xs ys zs : List Timed) → explained xs (ys ++ zs) ≡ explained xs ys ++ explained (xs ++ ys) zs
explained_more xs [] zs = ap (λ before. explained before zs) (sym (append-nil xs))
explained_more xs (y ∷ ys) zs =
    let rest = explained_more (xs ++ y ∷ []) ys zs in
    let before : (xs ++ y ∷ []) ++ ys ≡ xs ++ y ∷ ys = append_assoc xs (y ∷ []) ys in
    ap (λ l. line (standing xs) y ++ l) (rest ∙ ap (λ b. explained (xs ++ y ∷ []) ys ++ explained b zs) before)
    ∙ sym (append_assoc (line (standing xs) y) (explained (xs ++ y ∷ []) ys) (explained (xs ++ y ∷ ys) zs))

-- what `explain` writes is a line for each entry, over the entries before it
pub explained_each : IsEach (explained_form.text)
explained_each = record { none = λ xs. refl; more = explained_more }

-- ---- the log in a version

-- its header, and the entries as they end, after these
abbrev pub log_form : Version → Form
log_form v = bare_form (header_bytes v) (λ before more. entries_bytes v (latest_epoch 0 before) more)

-- what `convert` writes is the entries in the other version, each in the epoch that it stands in
pub log_each : (v : Version) → IsEach ((log_form v).text)
log_each v = record {
  none = λ xs. refl;
  more = λ xs ys zs.
      entries_append v (latest_epoch 0 xs) ys zs ∙ ap (λ (n : ℕ). entries_bytes v (latest_epoch 0 xs) ys ++ entries_bytes v n zs) (sym (latest_append 0 xs ys));
}
