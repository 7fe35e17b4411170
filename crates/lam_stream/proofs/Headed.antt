-- The bytes of a report, from its head on.
use Rattle.std.proofs.Common.{◌≡◌, ◌∙◌, refl, sym, ap, subst, ℕ, ◌≤◌, List, [], ◌∷◌, ◌++◌, length, drop, Option, Result, Ok, Err, arith}
use Rattle.std.specs.Prelude.{◌↔◌, IfErr, IfOk, IsOk, OnOk, codes, map}
use Rattle.std.proofs.lemmas.List.{length-append, length-drop}
use Rattle.std.proofs.lemmas.List.Elements.{recursion_from_All}
use Rattle.lam_stock.specs.declared.item.Item.{Item}
use Rattle.lam_job.specs.JobData.{JobData}
use Rattle.lam_tree.specs.declared.node.Node.{Node}
use Rattle.lam_tree.specs.declared.report.Answer.{Answer}
use Rattle.lam_tree.specs.declared.report.Best.{Best}
use Rattle.lam_tree.specs.declared.report.Head.{Head}
use Rattle.lam_tree.specs.declared.report.Report.{Report}
use Rattle.lam_tree.specs.Lines.{node_line}
use Rattle.lam_tree.specs.Checks.{Accepts, IsFirstFault}
use Rattle.lam_tree.specs.Promise.{Promise}
use Rattle.lam_tree.specs.Tests.{Tests}
use Rattle.lam_tree.specs.ReportRanges.{IsNode, IsReport}
use Rattle.lam_report.specs.LineText.{text_of, whole_lines}
use Rattle.lam_report.specs.ReportGrammar.{IsHead, Scans, Spells}
use Rattle.lam_report.proofs.CutLaws.{lines_again, text_of-append}
use Rattle.lam_report.proofs.FaultLaws.{one_report}
use Rattle.lam_report.proofs.GrammarLaws.{Given, TreeOf, tree_parses}
use Rattle.lam_check.specs.declared.accepted.Accepted.{Accepted}
use Rattle.lam_check.specs.declared.fault.CheckFault.{CheckFault}
use Rattle.lam_check.specs.Faults.{fault_is}
use Rattle.lam_check.specs.Headed.{with_nodes}
use Rattle.lam_check.specs.Says.{Says}
use Rattle.lam_stream.specs.Checked.{IsKept}
use Rattle.lam_stream.specs.inside.TreeNodes.{nodes_in}
use Rattle.lam_stream.proofs.NodeLines.{nodes_again}

module _ (stock : List Item) (job : JobData) (given : Given stock job) where
  -- the lines of a tree are read as that tree
  tree_again : (report : Report) (bytes : List ℕ) → IsReport stock job report → bytes ≡ text_of (map node_line report.tree ++ codes "end" ∷ [])
      → nodes_in (length stock) (whole_lines bytes) ≡ report.tree
  tree_again report bytes is text =
      let few = given.few in
      let lines : List (List ℕ) = map node_line report.tree ++ codes "end" ∷ [] in
      let are = recursion_from_All (IsNode (length stock)) report.tree is.nodes in
      let of : TreeOf stock job given (length report.tree) report.tree lines = record { many = refl; fits = are; text = refl } in
      let again = lines_again lines ((tree_parses stock job given (length report.tree)).lines report.tree lines of) in
      ap (λ b. nodes_in (length stock) (whole_lines b)) text ∙ ap (nodes_in (length stock)) again.0
      ∙ nodes_again (length stock) report.tree (omega (arith, few)) are

  abbrev report_by : ℕ → Answer → Option Best → (ratios panels : List ℕ) → List Node → Report
  report_by budget given best ratios panels tree =
      record { budget = budget; answer = given; best = best; ratios = ratios; panels = panels; tree = tree }

  -- a report is that of its head and its tree
  headed : (bytes : List ℕ) (report : Report) (head : Head) (nodes : List Node) → IsHead stock job bytes report head → nodes ≡ report.tree
      → with_nodes head nodes ≡ report
  headed bytes report head nodes is e =
      ap (report_by head.budget head.answer head.best head.ratios head.panels) e
      ∙ ap (λ b. report_by b head.answer head.best head.ratios head.panels report.tree) is.budget
      ∙ ap (λ a. report_by report.budget a head.best head.ratios head.panels report.tree) is.answer
      ∙ ap (λ b. report_by report.budget report.answer b head.ratios head.panels report.tree) is.best
      ∙ ap (λ r. report_by report.budget report.answer report.best r head.panels report.tree) is.ratios
      ∙ ap (λ p. report_by report.budget report.answer report.best report.ratios p report.tree) is.panels

  -- the tree begins within the bytes
  pub tree_place : (bytes : List ℕ) (head : Head) → Scans stock job bytes (Ok head) → head.at ≤ length bytes
  tree_place bytes head (own, spelled, is) =
      let tree = map node_line own.tree in
      let long = ap length (is.byte ∙ text_of-append tree (codes "end" ∷ [])) in
      let parts = length-append (text_of tree) (text_of (codes "end" ∷ [])) in
      let cut = length-drop head.at bytes in
      omega (arith, long, parts, cut)

  -- what is read from there on
  module _ (bytes : List ℕ) (head : Head) (items : ℕ) (behind : List ℕ) (items_are : items ≡ length stock) (behind_is : behind ≡ drop head.at bytes) where
    nodes_are : (own : Report) → Spells stock job own bytes → IsHead stock job bytes own head → nodes_in items (whole_lines behind) ≡ own.tree
    nodes_are own spelled is =
        ap (λ n. nodes_in n (whole_lines behind)) items_are ∙ tree_again own behind spelled.report_is (behind_is ∙ is.byte)

    pub report_is : (s : Scans stock job bytes (Ok head)) → with_nodes head (nodes_in items (whole_lines behind)) ≡ s.0
    report_is (own, spelled, is) = headed bytes own head (nodes_in items (whole_lines behind)) is (nodes_are own spelled is)

    -- whatever report the bytes spell, it is that one
    pub report_alone : Scans stock job bytes (Ok head) → (report : Report) → Spells stock job report bytes
        → with_nodes head (nodes_in items (whole_lines behind)) ≡ report
    report_alone s report its = report_is s ∙ one_report stock job given s.0 report bytes s.1 its

    pub nodes_count : Scans stock job bytes (Ok head) → head.nodes ≡ length (nodes_in items (whole_lines behind))
    nodes_count (own, spelled, is) = is.nodes ∙ ap length (sym (nodes_are own spelled is))

    pub report_fits : Scans stock job bytes (Ok head) → IsReport stock job (with_nodes head (nodes_in items (whole_lines behind)))
    report_fits (own, spelled, is) = subst (λ (r : Report). IsReport stock job r) (sym (report_is (own, spelled, is))) spelled.report_is

-- ---- what is found of a report, of another name

pub kept_is : (stock : List Item) (job : JobData) (tests : Tests) (one report : Report) (r : Result Accepted CheckFault) → one ≡ report
    → (IsOk r → Accepts stock job tests one) → IfOk r (Says one) → OnOk r (Promise stock job one.budget one)
    → IfOk r (IsKept stock job tests report)
kept_is stock job tests one report (Ok said) e accepts says promise =
    subst (λ (x : Report). IsKept stock job tests x said) e (record { accepted = accepts refl; says = says; promise = promise })
kept_is stock job tests one report (Err fault) e accepts says promise = tt

pub fault_is_of : (stock : List Item) (job : JobData) (tests : Tests) (one report : Report) (r : Result Accepted CheckFault) → one ≡ report
    → IfErr r (λ fault. IsFirstFault stock job tests one (fault_is fault)) → IfErr r (λ fault. IsFirstFault stock job tests report (fault_is fault))
fault_is_of stock job tests one report r e fault =
    subst (λ (x : Report). IfErr r (λ fault. IsFirstFault stock job tests x (fault_is fault))) e fault

pub agrees_of : (stock : List Item) (job : JobData) (tests : Tests) (one report : Report) (r : Result Accepted CheckFault) → one ≡ report
    → (IsOk r ↔ Accepts stock job tests one) → IsOk r ↔ Accepts stock job tests report
agrees_of stock job tests one report r e agrees = subst (λ (x : Report). IsOk r ↔ Accepts stock job tests x) e agrees
