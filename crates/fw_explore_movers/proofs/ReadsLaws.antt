-- Words that are read, and one more after them.
use Rattle.std.proofs.Common.{ℕ, suc, ◌≡◌, ◌+◌, ◌<◌, ◌≤◌, List, [], ◌∷◌, ◌++◌, length, get_or, take, drop, map, sym, ap, subst, ◌∙◌, add-one, drop-cons, arith}
use Rattle.std.proofs.lemmas.List.{take_more, take_all, take-append-drop, take-map, get_or-map, length-map, length-take}
use Rattle.fw_explore_movers.specs.declared.fault.WordWhy.{WordWhy}
use Rattle.fw_explore_movers.specs.Words.{Read, Reads, ReadsAll, Refused, IsFirstRefused, nothing_read, all_read, reads}

pub reads_push : (n m : ℕ) (prefix : List (List ℕ)) (word : List ℕ) (r s t : Read) → ReadsAll n prefix r s → m ≡ n + length prefix → Reads m word s t → ReadsAll n (prefix ++ word ∷ []) r t
reads_push n m prefix word r s t all_read at one =
    let same : m ≡ n = omega arith in
    reads (subst (λ k. Reads k word s t) same one) all_read
reads_push n m prefix word r s t (reads {word = w} {words = ws} {s = u} first rest) at one =
    let on : m ≡ (n + 1) + length ws = omega arith in
    reads first (reads_push (n + 1) m ws word u s t rest on one)

-- the words so far, if words are told by what is read of them
module _ {T : Type 0} (f : T → List ℕ) (words : List T) (at : ℕ) (word : T) (within : at < length words) (is : word ≡ get_or words at word) where
  here : f word ≡ get_or (map f words) at (f word)
  here = ap f is ∙ sym (get_or-map f words at word (f word) within)

  far : at ≡ length (take at (map f words))
  far = omega (arith, length-take at (map f words), length-map words f)

  pub one_more : (r s : Read) → ReadsAll 1 (map f (take at words)) nothing_read r → Reads (at + 1) (f word) r s → ReadsAll 1 (map f (take (at + 1) words)) nothing_read s
  one_more r s so one =
      let to = take-map f (at + 1) words in
      let longer : take (at + 1) (map f words) ≡ take at (map f words) ++ f word ∷ [] =
      take_more (map f words) at (f word) (omega (arith, length-map words f)) ∙ ap (λ (w : List ℕ). take at (map f words) ++ w ∷ []) (sym here) in
      let before : ReadsAll 1 (take at (map f words)) nothing_read r = subst (λ (l : List (List ℕ)). ReadsAll 1 l nothing_read r) (sym (take-map f at words)) so in
      subst (λ (l : List (List ℕ)). ReadsAll 1 l nothing_read s) (sym longer ∙ to)
      (reads_push 1 (at + 1) (take at (map f words)) (f word) nothing_read r s before (omega (arith, far)) one)

  pub first_refused : (r : Read) (why : WordWhy) → ReadsAll 1 (map f (take at words)) nothing_read r → Refused (at + 1) (f word) r why → IsFirstRefused (map f words) (at + 1) why
  first_refused r why so refused = record {
    prefix = take at (map f words);
    word = f word;
    rest = drop (at + 1) (map f words);
    parts = sym (take-append-drop at (map f words)) ∙ ap (λ (l : List (List ℕ)). take at (map f words) ++ l)
        (drop-cons (map f words) at (f word) (omega (arith, length-map words f)) ∙ ap (λ (w : List ℕ). w ∷ drop (suc at) (map f words)) (sym here)
        ∙ ap (λ (k : ℕ). f word ∷ drop k (map f words)) (sym (add-one at)));
    number = omega (arith, far);
    read = r;
    reads_prefix = subst (λ (l : List (List ℕ)). ReadsAll 1 l nothing_read r) (sym (take-map f at words)) so;
    refused = refused;
  }

pub all_words : {T : Type 0} (f : T → List ℕ) (words : List T) (at : ℕ) (r : Read) → length words ≤ at → ReadsAll 1 (map f (take at words)) nothing_read r → ReadsAll 1 (map f words) nothing_read r
all_words f words at r end so = subst (λ l. ReadsAll 1 (map f l) nothing_read r) (take_all at words end) so
