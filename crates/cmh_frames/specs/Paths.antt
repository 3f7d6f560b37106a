-- Paths of waits, and the paths that stay at one site.
use Rattle.std.specs.Prelude.{◌≡◌, ℕ, true, List, [], ◌∷◌}
use Rattle.cmh_frames.specs.Topology.{Topology, At}
use Rattle.cmh_frames.specs.Relation.{Relation, has}

-- Each of p and the further members is in R to the next one, and the last is q.
abbrev pub IsPath : (ℕ → ℕ → Type 0) → ℕ → List ℕ → ℕ → Type 0
IsPath R p [] q = p ≡ q
IsPath R p (x ∷ xs) q = R p x × IsPath R x xs q

-- a list of at least two members that begins and ends with p, in which each is in R to the next
abbrev pub IsCycleOf : (ℕ → ℕ → Type 0) → ℕ → List ℕ → Type 0
IsCycleOf R p (first ∷ second ∷ others) = (first ≡ p) × IsPath R first (second ∷ others) p
IsCycleOf R p members = ⊥

-- ---- among the processes of a site; `waits` are those that the site keeps

-- p waits for q, and both are at the site
abbrev pub WaitsLocally : Topology → ℕ → Relation → ℕ → ℕ → Type 0
WaitsLocally t s waits p q = At t p s × At t q s × (has waits p q ≡ true)

-- p reaches q locally: a path of no or more such waits leads from p to q
abbrev pub ReachesLocally : Topology → ℕ → Relation → ℕ → ℕ → Type 0
ReachesLocally t s waits p q = At t p s × ((members : List ℕ) × IsPath (WaitsLocally t s waits) p members q)

-- p is locally dependent upon itself: a path of one or more such waits leads from p to p
abbrev pub DependsOnItself : Topology → ℕ → Relation → ℕ → Type 0
DependsOnItself t s waits p = (next : ℕ) × WaitsLocally t s waits p next × ReachesLocally t s waits next p

-- ---- among the processes that are Here, for who does not know the topology

abbrev pub WaitsAmong : (ℕ → Type 0) → Relation → ℕ → ℕ → Type 0
WaitsAmong Here waits p q = Here p × Here q × (has waits p q ≡ true)

abbrev pub ReachesAmong : (ℕ → Type 0) → Relation → ℕ → ℕ → Type 0
ReachesAmong Here waits p q = Here p × ((members : List ℕ) × IsPath (WaitsAmong Here waits) p members q)

abbrev pub DependsOnItselfAmong : (ℕ → Type 0) → Relation → ℕ → Type 0
DependsOnItselfAmong Here waits p = (next : ℕ) × WaitsAmong Here waits p next × ReachesAmong Here waits next p
