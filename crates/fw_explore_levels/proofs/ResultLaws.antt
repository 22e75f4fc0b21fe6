-- What clauses say of results that are one or the other.
use Rattle.std.proofs.Common.{Ok, Err, Result}
use Rattle.std.specs.Result.{IsErr, IfOk, OnOk, OnErr}
use Rattle.std.proofs.lemmas.Bool.{false≢true}

-- nothing is said of the value of an error
pub on_ok : {T E : Type 0} (r : Result T E) (P : Type 0) → IsErr r → OnOk r P
on_ok (Ok x) P h = absurd (false≢true h)
on_ok (Err e) P h = tt

pub on_err : {T E : Type 0} (r : Result T E) (P : Type 0) → P → OnErr r P
on_err (Ok x) P h = tt
on_err (Err e) P h = h

pub if_ok : {T E : Type 0} (r : Result T E) (P Q : T → Type 0) → ((v : T) → P v → Q v) → IfOk r P → IfOk r Q
if_ok (Ok v) P Q f h = f v h
if_ok (Err e) P Q f h = tt
