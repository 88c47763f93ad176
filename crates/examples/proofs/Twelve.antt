-- The twelve examples of document 01, proved together. Assumes nothing.
use Rattle.examples.specs.Statement.{Twelve}
use Rattle.examples.proofs.Images as Images
use Rattle.examples.proofs.Tests as Tests
use Rattle.examples.proofs.Requests as Requests
use Rattle.examples.proofs.Access as Access

pub twelve_examples : Twelve
twelve_examples = record {
  one = Images.one;
  two = Tests.two;
  three = Tests.three;
  four = Tests.four;
  five = Tests.five;
  six = Requests.six;
  seven = Requests.seven;
  eight = Requests.eight;
  nine = Requests.nine;
  ten = Requests.ten;
  eleven = Access.eleven;
  twelve = Images.twelve;
}
