-- What the files on a run get.
use denote.Ref.{Bor}
use Rattle.std.specs.Prelude.{◌≡◌, ◌||◌, ℕ, [], ◌∷◌, Bool, List, Option, Some, None, is_some, map}
use Rattle.std.specs.Option.{option_copied, option_map}
use Rattle.coll_html.specs.Pages.{page_text}
use Rattle.coll_report.specs.Reports.{Closed}
use Rattle.coll_report.specs.declared.span.Span.{Span}
use Rattle.coll_views.specs.declared.request.TracedRequest.{TracedRequest}
use Rattle.coll_views.specs.Lines.{outcomes_json, trace_text}
use Rattle.coll_views.specs.Requests.{all_requests}
use Rattle.coll_views.specs.Rows.{rows_of}
use Rattle.coll_views.specs.Tables.{tables_text}
use Rattle.coll_witness.specs.Findings as findings
use Rattle.coll_job.specs.declared.pages.TheConstants.{RUN, AS_OBJECTS}
use Rattle.coll_job.specs.declared.viewing.ViewFile.{ViewFile}
use Rattle.coll_job.specs.declared.views.OutcomeForm.{OutcomeForm}
use Rattle.coll_job.specs.declared.views.OutcomeForm.TheVariants.{Text, Json}
use Rattle.coll_job.specs.declared.views.Views.{Views}

-- some file is named
abbrev pub are_wanted : Views → Bool
are_wanted views =
    is_some views.trace || (is_some views.stats || (is_some views.timeline || (is_some views.picture || (is_some views.page || is_some views.outcomes))))

-- the requests of a closed engine's trace
abbrev pub requests_of : Closed → List (List TracedRequest)
requests_of r = all_requests r.setting.ranks r.setting.groups r.entries

-- the lines of the calls that made its entries
abbrev pub lines_of : List Span → List ℕ
lines_of spans = map (λ span. span.line) spans

-- its entries, a line each
abbrev pub trace_page : Closed → List Span → List ℕ
trace_page r spans = trace_text (requests_of r) (lines_of spans) r.entries

-- what they add up to
abbrev pub stats_page : Closed → List ℕ
stats_page r = tables_text r.setting.ranks r.setting.groups (requests_of r) (rows_of (requests_of r) r.entries)

-- what they handed out, as JSON
abbrev pub outcomes_page : Closed → List Span → List ℕ
outcomes_page r spans = outcomes_json r.setting.ranks (requests_of r) (lines_of spans) r.entries

-- the outcomes in a form: as on standard output, or as JSON
abbrev pub outcomes_in : OutcomeForm → Closed → List Span → List ℕ → List ℕ
outcomes_in Text r spans lines = lines
outcomes_in Json r spans lines = outcomes_page r spans

-- the page of a run for a browser, of a text of that name: some timeline and the tables
abbrev pub IsRunPage : List ℕ → Closed → List ℕ → Type 0
IsRunPage file r bytes = (timeline : List ℕ) × (bytes ≡ page_text RUN.now file timeline (stats_page r) [])

-- the page on whether and why the runs of a text deadlock: an explanation in objects of JSON, whose verdict is true of the text
abbrev pub IsExplainedPage : List ℕ → List ℕ → List ℕ → List ℕ → Type 0
IsExplainedPage program file text bytes =
    (status : ℕ) × (lines : List ℕ) × (bytes ≡ page_text program file [] [] lines) × findings.IsTrueOf text AS_OBJECTS status lines

-- the name of a file, and what it gets
abbrev pub named_text : ViewFile → List ℕ × List ℕ
named_text page = (page.name.now, page.bytes.items)

-- a file gets the text, where one is named
abbrev pub text_for : Option (Bor (List ℕ)) → List ℕ → Option (List ℕ × List ℕ)
text_for name text = option_map (λ (n : List ℕ). (n, text)) (option_copied name)

-- the name of a file
abbrev pub name_in : ViewFile → List ℕ
name_in page = page.name.now

-- a file gets the page for a browser, where one is named
abbrev pub IsRunPageFor : Option (Bor (List ℕ)) → List ℕ → Closed → Option ViewFile → Type 0
IsRunPageFor None file r page = page ≡ None
IsRunPageFor (Some name) file r None = ⊥
IsRunPageFor (Some name) file r (Some page) = (page.name.now ≡ name.now) × IsRunPage file r page.bytes.items

-- each file that is named gets its own text: the trace, the tables, a timeline and a picture, of which nothing but the name is said, the
-- page for a browser, and the outcomes
abbrev pub ArePages : Views → List ℕ → Closed → List Span → List ℕ → List (Option ViewFile) → Type 0
ArePages views file r spans lines (trace ∷ stats ∷ timeline ∷ picture ∷ page ∷ outcomes ∷ []) =
    (option_map named_text trace ≡ text_for views.trace (trace_page r spans))
    × (option_map named_text stats ≡ text_for views.stats (stats_page r))
    × (option_map name_in timeline ≡ option_copied views.timeline)
    × (option_map name_in picture ≡ option_copied views.picture)
    × IsRunPageFor views.page file r page
    × (option_map named_text outcomes ≡ text_for views.outcomes (outcomes_in views.form r spans lines))
ArePages views file r spans lines pages = ⊥
