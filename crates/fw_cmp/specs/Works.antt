-- What a controller is at, kept as what it is at while no request stands, and whether one does.
use Rattle.std.specs.Prelude.{Bool, true, false, Option, None, IsTrue, ⊤}
use Rattle.fw_cmp.specs.declared.current.Current.{Current}
use Rattle.fw_cmp.specs.declared.current.Current.TheVariants.{Nothing, Asking, Hearing, Overtaken}
use Rattle.fw_cmp.specs.Controllers.{IsHeard}
use Rattle.fw_cmp_jobs.specs.Fits.{JobFits, StageFits}
use Rattle.fw_cmp_jobs.specs.Requests.{access_of}
use Rattle.fw_cmp_jobs.specs.declared.request.Access.{Access}

-- a job is at a stage, whose request does not stand
abbrev pub IsAsking : Current → Type 0
IsAsking (Asking j s) = ⊤
IsAsking _ = ⊥

-- the request of its stage goes out
abbrev pub asked : Current → Current
asked Nothing = Nothing
asked (Asking j s) = Hearing j s
asked (Hearing j s) = Hearing j s
asked (Overtaken i o) = Overtaken i o

-- what it is at, by whether a request is outstanding
abbrev pub shown : Bool → Current → Current
shown true x = asked x
shown false x = x

-- what is kept is what it is at while no request is outstanding, and one is only if a job is at a stage
pub record MayStand (stands : Bool) (x : Current) : Type 0 where
  pub heard : IsHeard x
  pub asking : IsTrue stands → IsAsking x

-- the job and the stage fit each other, if there is a job
abbrev pub CurrentRuns : Current → Type 0
CurrentRuns Nothing = ⊤
CurrentRuns (Asking j s) = JobFits j × StageFits j s
CurrentRuns (Hearing j s) = JobFits j × StageFits j s
CurrentRuns (Overtaken i o) = ⊤

-- what the request that stands asks
abbrev pub standing_in : Current → Option Access
standing_in Nothing = None
standing_in (Asking j s) = None
standing_in (Hearing j s) = access_of j s
standing_in (Overtaken i o) = None
