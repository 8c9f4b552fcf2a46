-- Where the values of a rank's requests stand in memory.
use Rattle.std.proofs.Common.{◌≡◌, ◌<◌, ℕ, [], List, Vec, length, map, take, get_or, ap, subst, sym, ◌∙◌, arith}
use Rattle.std.specs.Prelude.{slice_get, unwrap_or, Option}
use Rattle.std.specs.Global.{Global}
use Rattle.std.proofs.lemmas.List.{length-map}
use Rattle.coll_parser.specs.Code.{request_view}
use Rattle.coll_parser.specs.Requests.{Request}
use Rattle.coll_parser.specs.declared.request.Request as rust
use Rattle.coll_parser.proofs.Lists.{slice_get-view}
use Rattle.coll_script.specs.Postings.{posted_on}
use Rattle.coll_script.specs.declared.values.MemberValues.{MemberValues}
use Rattle.coll_script.specs.Outcomes.{place_view, group_view, values_view}
use Rattle.coll_script.specs.Prints.{values_at, HasValues, HaveValues}

-- those of one of the requests
pub HasValues-at : (values : List (List (List (List (List ℕ))))) (requests : List rust.Request) (number : ℕ) (p : rust.Request)
    → number < length requests → p ≡ get_or requests number p → HaveValues values (map request_view requests)
    → HasValues values (request_view p) (length (posted_on p.comm (take number (map request_view requests))))
HasValues-at values requests number p lt is have =
    have number (request_view p) (slice_get-view request_view requests number p lt is)

-- its communicator has values
pub comm-within : (values : List (Vec (Vec MemberValues Global) Global)) (p : Request) (posted comm : ℕ) → comm ≡ p.comm
    → HasValues (values_view values) p posted → comm < length values
comm-within values p posted comm is has =
    let known = has.known in
    let len : length (values_view values) ≡ length values = length-map values _ in
    omega (arith, known, len, is)

group-there : (values : List (Vec (Vec MemberValues Global) Global)) (p : Request) (posted comm : ℕ)
    (group : Vec (Vec MemberValues Global) Global) → comm ≡ p.comm → HasValues (values_view values) p posted
    → group ≡ get_or values comm group
    → unwrap_or (slice_get (values_view values) p.comm) [] ≡ group_view group.items
group-there values p posted comm group is has there =
    ap (λ k. unwrap_or (slice_get (values_view values) k) []) (sym is)
    ∙ ap (λ (o : Option (List (List (List (List ℕ))))). unwrap_or o [])
    (slice_get-view (λ (places : Vec (Vec MemberValues Global) Global). group_view places.items) values comm group
    (comm-within values p posted comm is has) there)

-- and there its place
pub place-within : (values : List (Vec (Vec MemberValues Global) Global)) (p : Request) (posted comm place : ℕ)
    (group : Vec (Vec MemberValues Global) Global) → comm ≡ p.comm → place ≡ posted → HasValues (values_view values) p posted
    → group ≡ get_or values comm group → place < length group.items
place-within values p posted comm place group is at has there =
    let below : posted < length (group_view group.items) =
    subst (λ (g : List (List (List (List ℕ)))). posted < length g) (group-there values p posted comm group is has there)
    has.below in
    let len : length (group_view group.items) ≡ length group.items = length-map group.items _ in
    omega (arith, at, below, len)

-- the values of its starts
pub starts-there : (values : List (Vec (Vec MemberValues Global) Global)) (p : Request) (posted comm place : ℕ)
    (group : Vec (Vec MemberValues Global) Global) (starts : Vec MemberValues Global) → comm ≡ p.comm → place ≡ posted
    → HasValues (values_view values) p posted → group ≡ get_or values comm group
    → starts ≡ get_or group.items place starts → values_at (values_view values) p.comm posted ≡ place_view starts.items
starts-there values p posted comm place group starts is at has there here =
    ap (λ (g : List (List (List (List ℕ)))). unwrap_or (slice_get g posted) [])
    (group-there values p posted comm group is has there)
    ∙ ap (λ k. unwrap_or (slice_get (group_view group.items) k) []) (sym at)
    ∙ ap (λ (o : Option (List (List (List ℕ)))). unwrap_or o [])
    (slice_get-view (λ (s : Vec MemberValues Global). place_view s.items) group.items place starts
    (place-within values p posted comm place group is at has there) here)
