-- The ledger of a service as the book that the rules of consensus read. Whatever it makes is tried
-- by the rules of the audit, and refused where it breaks one.
use Rattle.std.specs.Prelude.{List, Option, None, Some}
use Rattle.gl_rules.specs.Identity.{NodeId}
use Rattle.gl_rules.specs.Book.{Book}
use Rattle.gl_tx.specs.declared.request.Operation.{Operation}
use Rattle.gl_entry.specs.Entry.{is_signature, is_evidence, recorded_commit, frame_size}
use Rattle.gl_entry.specs.declared.entry.Entry.{Entry}
use Rattle.gl_requests.specs.declared.request.GovernanceRequest.{GovernanceRequest}
use Rattle.gl_requests.specs.declared.request.GovernanceRequest.TheVariants as requests
use Rattle.gl_gov_rules.specs.declared.refusal.GovernanceRefusal.{GovernanceRefusal}
use Rattle.gl_gov_rules.specs.Changes.{history}
use Rattle.gl_gov_rules.specs.Refusals as governance
use Rattle.gl_ledger.specs.Layers.{Layers}
use Rattle.gl_ledger.specs.NodeKeys.{NodeKeys, leaf_count}
use Rattle.gl_ledger.specs.Recordings.{requests_of, recorded_nodes, configuration, removal, mark}
use Rattle.gl_ledger.specs.declared.breach.Broken.{Broken}
use Rattle.gl_ledger.specs.declared.response.Reads.{Reads}
use Rattle.gl_ledger.specs.declared.refusal.Refusal.TheVariants as refusals
use Rattle.gl_ledger.specs.Past.{past_of}
use Rattle.gl_ledger.specs.Broken.{broken_from}
use Rattle.gl_ledger.specs.declared.response.Response.{Response}
use Rattle.gl_ledger.specs.declared.response.Rejection.{Rejection}
use Rattle.gl_ledger.specs.declared.response.Rejection.TheVariants.{ByStore, ByRule}
use Rattle.gl_ledger.specs.Makers.{guarded, request_result, govern_result, unless_empty, signing_result, evidence_result}

-- The node that a request marks.
abbrev pub marked_node : GovernanceRequest → Option NodeId
marked_node (requests.Mark x) = Some x
marked_node other = None

abbrev pub by_refusal : Option GovernanceRefusal → Option Rejection
by_refusal None = None
by_refusal (Some why) = Some (ByStore (refusals.Governance why))

abbrev pub by_rule : Option Broken → Option Rejection
by_rule None = None
by_rule (Some why) = Some (ByRule why)

abbrev pub ServiceBook : Type 0
ServiceBook = Book Entry (List Operation) GovernanceRequest Reads Response Rejection

abbrev pub ledger_book : Layers → NodeKeys → ServiceBook
ledger_book layers keys = record {
  view_of = λ e. e.view;
  is_signature = λ e. is_signature e.content;
  is_evidence = λ e. is_evidence e.content;
  recorded_commit = λ e. recorded_commit e.content;
  frame_size = frame_size;
  configuration = configuration;
  recorded_nodes = recorded_nodes;
  removal = removal;
  mark = mark;
  leaves = leaf_count keys;
  execute = λ ledger view q.
      guarded layers (λ made. made.0) ledger (request_result ledger view q);
  govern = λ ledger view g.
      guarded layers (λ made. made.0) ledger (govern_result ledger view g);
  sign = λ x leaf ledger view commit.
      guarded layers (λ made. made) ledger
      (unless_empty ledger (signing_result keys x leaf ledger view commit));
  evidence = λ ledger view.
      guarded layers (λ made. made) ledger (evidence_result (past_of ledger) view);
  marked_node = marked_node;
  mark_refusal = λ ledger x.
      by_refusal (governance.mark_refusal (history (requests_of ledger)) x);
  conflict = λ base ledger len reads. None;
  breaks = λ base ledger e. by_rule (broken_from layers base ledger e);
}
